use Rattle.std.proofs.Common.{subst, ◌∙◌}
use Rattle.chisel_top.specs.Telling.{Delivers}
use Rattle.chisel_top.proofs.Tellings.{number_is}
use Rattle.chisel_top.proofs.tell.tell_number.Goals as goal

pub returns-clause-delivers : goal.returns-clause-delivers
returns-clause-delivers g c =
    subst (λ t. Delivers t c.args.status (g.K.Sink.written c.args.sink.now) (g.K.Sink.written c.put_all.new.sink) (g.K.Sink.faults c.args.sink.now) (g.K.Sink.faults c.put_all.new.sink) c.put_all.result)
    (number_is c.args.before.now c.args.word.now c.as_bytes-number.result.now c.args.number (c.as_bytes-number.ensures.value ∙ c.format.ensures.text))
    c.put_all.ensures.delivers
