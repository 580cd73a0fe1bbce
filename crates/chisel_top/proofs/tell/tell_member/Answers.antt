use Rattle.std.proofs.Common.{subst, ◌∙◌}
use Rattle.chisel_top.specs.Telling.{Delivers}
use Rattle.chisel_top.proofs.Tellings.{refusal_is}
use Rattle.chisel_top.proofs.tell.tell_member.Goals as goal

pub returns-clause-delivers : goal.returns-clause-delivers
returns-clause-delivers g c =
    subst (λ t. Delivers t c.args.status (g.K.Sink.written c.args.sink.now) (g.K.Sink.written c.put_all.new.sink) (g.K.Sink.faults c.args.sink.now) (g.K.Sink.faults c.put_all.new.sink) c.put_all.result)
    (refusal_is c.why_text.result.now c.key_text.result.now c.as_bytes-outer.result.now c.as_bytes-inner.result.now c.args.why c.args.member.key c.args.member.outer c.args.member.inner c.why_text.ensures c.key_text.ensures
    (c.as_bytes-outer.ensures.value ∙ c.format.ensures.text) (c.as_bytes-inner.ensures.value ∙ c.format-2.ensures.text))
    c.put_all.ensures.delivers
