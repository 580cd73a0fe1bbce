use Rattle.std.proofs.Common.{◌≡◌, [], drop, map}
use Rattle.serde_json.specs.View.{view}
use Rattle.rely_inputs.specs.Samples.{number_at, each_after}
use Rattle.rely_inputs.proofs.cell.numbers_of.Given as goal

abbrev pub invariant-loop-v : goal.invariant-loop-v
invariant-loop-v l =
    each_after (λ _ d. number_at l.place d) l.numbers.items (map view (drop l.v-index l.vs)) ≡ each_after (λ _ d. number_at l.place d) [] (map view l.vs)
