use Rattle.chisel_run.proofs.Sampling.{sampled}
use Rattle.chisel_run.proofs.samples.sample.Goals as goal

pub returns-clause-ok : goal.returns-clause-ok
returns-clause-ok c =
    sampled c.args.count c.args.start.now c.in-Ok.outcome c.args.course.now c.reliable.new.self c.in-Ok.ensures.outcome c.in-Ok.ensures.took c.in-Ok.ensures.words
    c.agreeing.new.self c.in-Ok-agreeing.agreeing c.end_of-end.result c.in-Ok-agreeing.ensures.ok c.end_of-end.ensures
