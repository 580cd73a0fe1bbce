use Rattle.std.proofs.Common.{subst, ◌∙◌}
use Rattle.chisel_top.specs.Telling.{Delivers}
use Rattle.chisel_top.proofs.Tellings.{sample_is}
use Rattle.chisel_top.proofs.tell.tell_sample.Goals as goal

pub returns-clause-delivers : goal.returns-clause-delivers
returns-clause-delivers g c =
    subst (λ t. Delivers t c.args.status (g.K.Sink.written c.args.sink.now) (g.K.Sink.written c.put_all.new.sink) (g.K.Sink.faults c.args.sink.now) (g.K.Sink.faults c.put_all.new.sink) c.put_all.result)
    (sample_is c.lack_text.result.now c.as_bytes-sample.result.now c.as_bytes-var.result.now c.args.why c.args.sample c.args.var c.lack_text.ensures
    (c.as_bytes-sample.ensures.value ∙ c.format.ensures.text) (c.as_bytes-var.ensures.value ∙ c.format-2.ensures.text))
    c.put_all.ensures.delivers
