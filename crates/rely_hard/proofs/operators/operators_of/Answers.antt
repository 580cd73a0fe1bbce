use Rattle.std.proofs.Common.{◌≡◌, List, Ok, sym, subst, arith}
use Rattle.std.proofs.lemmas.Grind.{common_steps}
use Rattle.serde_json.specs.View.{view}
use Rattle.rely_hard.specs.declared.hardware.OpSpec.{OpSpec}
use Rattle.rely_hard.specs.Meaning.{operator_at}
use Rattle.rely_hard.specs.Valid.{AreOnce}
use Rattle.rely_hard.proofs.Kept.{once_from_read}
use Rattle.rely_hard.proofs.Lists.{each_after-more}
use Rattle.rely_hard.proofs.operators.operators_of.Goals as goal

pub loop-v-preserved : goal.loop-v-preserved
loop-v-preserved c =
    let before = c.loop-v.operators.items in
    let operator = c.in_ok-operator.operator in
    let was_read = subst (λ (os : List OpSpec). operator_at os (view c.v-item.result) ≡ Ok operator) c.as_slice.ensures.value c.in_ok-operator.ensures.ok in
    let once = once_from_read before (view c.v-item.result) operator was_read c.loop-v.invariant.0 in
    (subst AreOnce (sym c.in_ok-push.ensures.items) once, grind (arith, common_steps, each_after-more))
