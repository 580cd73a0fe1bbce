use Rattle.std.proofs.Common.{◌∙◌, sym, ap}
use Rattle.rely_num.specs.Texts.{same_text}
use Rattle.rely_num.proofs.Searches.{op_from_next, op_from_end, op_from_here}
use Rattle.rely_num.proofs.op.Op.of_text.Goals as goal

pub loop-op-preserved : goal.loop-op-preserved
loop-op-preserved c = c.loop-op.invariant ∙ op_from_next c.args.text.now c.loop-op.op-index _ c.loop-op-test.true (ap (λ t. same_text t c.args.text.now) (sym c.text.ensures.text) ∙ sym c.eq.ensures ∙ c.if-eq.false)

pub returns-clause-value : goal.returns-clause-value
returns-clause-value c = sym (c.loop-op.invariant ∙ op_from_end c.args.text.now c.loop-op.op-index c.loop-op-test.false)

pub returns-then-eq-clause-value : goal.returns-then-eq-clause-value
returns-then-eq-clause-value c = sym (c.loop-op.invariant ∙ op_from_here c.args.text.now c.loop-op.op-index _ c.loop-op-test.true (ap (λ t. same_text t c.args.text.now) (sym c.text.ensures.text) ∙ sym c.eq.ensures ∙ c.if-eq.true))
