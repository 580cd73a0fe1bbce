use Rattle.std.proofs.Common.{◌≡◌, [], length, drop}
use Rattle.serde_json.specs.View.{items_view}
use Rattle.rely_hard.specs.Meaning.{memory_at, each_after}
use Rattle.rely_hard.proofs.memories.memories_of.Given as goal

abbrev pub invariant-loop-v : goal.invariant-loop-v
invariant-loop-v l =
    (length l.memories.items ≡ l.v-index)
    × (each_after memory_at l.memories.items (items_view (drop l.v-index l.vs)) ≡ each_after memory_at [] (items_view l.vs))
