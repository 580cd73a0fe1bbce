use Rattle.std.proofs.Common.{◌≡◌, [], length, drop, map}
use Rattle.serde_json.specs.View.{view}
use Rattle.rely_inputs.specs.Samples.{numbered_sample, each_after}
use Rattle.rely_inputs.proofs.file.stores_of.Given as goal

abbrev pub invariant-loop-v : goal.invariant-loop-v
invariant-loop-v l =
    (length l.stores.items ≡ l.v-index)
    × (each_after (numbered_sample l.k) l.stores.items (map view (drop l.v-index l.vs)) ≡ each_after (numbered_sample l.k) [] (map view l.vs))
