use Rattle.std.proofs.Common.{◌≡◌, [], length, drop}
use Rattle.serde_json.specs.View.{items_view}
use Rattle.rely_hard.specs.Meaning.{kind_at, each_after}
use Rattle.rely_hard.proofs.kinds.kinds_of.Given as goal

abbrev pub invariant-loop-v : goal.invariant-loop-v
invariant-loop-v l =
    (length l.kinds.items ≡ l.v-index)
    × (each_after (kind_at l.outer) l.kinds.items (items_view (drop l.v-index l.vs)) ≡ each_after (kind_at l.outer) [] (items_view l.vs))
