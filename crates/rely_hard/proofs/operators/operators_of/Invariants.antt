use Rattle.std.proofs.Common.{◌≡◌, [], drop}
use Rattle.serde_json.specs.View.{items_view}
use Rattle.rely_hard.specs.Meaning.{operator_at, each_after}
use Rattle.rely_hard.specs.Valid.{AreOnce}
use Rattle.rely_hard.proofs.operators.operators_of.Given as goal

abbrev pub invariant-loop-v : goal.invariant-loop-v
invariant-loop-v l =
    (AreOnce l.operators.items)
    × (each_after operator_at l.operators.items (items_view (drop l.v-index l.vs)) ≡ each_after operator_at [] (items_view l.vs))
