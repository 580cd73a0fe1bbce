use Rattle.chisel_run.proofs.Runnable.{closed_of}
use Rattle.chisel_run.proofs.Sampling.{runs_exceed, sampling_more}
use Rattle.chisel_run.proofs.samples.samples.Goals as goal

pub own_kinds-requires : goal.own_kinds-requires
own_kinds-requires c = closed_of c.args.ready.now c.requires.ready

pub returns-in-Err-clause-err : goal.returns-in-Err-clause-err
returns-in-Err-clause-err c =
    runs_exceed c.args.ready.now c.args.trials c.args.starts.now c.loop-start.start-index c.start-item.result c.loop-start.outcomes.items c.loop-start.ends.items c.loop-start.course c.loop-start-test.true
    c.loop-start.invariant c.start-item.result c.in-Err.fault c.start-item.is c.in-Err.ensures.err

pub loop-start-preserved : goal.loop-start-preserved
loop-start-preserved c =
    rw (c.in_ok-push.ensures.items, c.in_ok-push-2.ensures.items)
    (sampling_more c.args.ready.now c.args.trials c.args.starts.now c.loop-start.start-index c.start-item.result c.loop-start.outcomes.items c.loop-start.ends.items c.loop-start.course c.loop-start-test.true
    c.loop-start.invariant c.start-item.result c.sample.new.course c.in-Ok.sample.0 c.in-Ok.sample.1 c.start-item.is c.in-Ok.ensures.ok)
