use Rattle.std.proofs.Common.{◌≡◌, map, drop, is_none}
use Rattle.std.specs.List.{list_any}
use Rattle.rely_tree.specs.Shape.{said_shape}
use Rattle.rely_resolve.proofs.calls.any_on_result.Given as goal

abbrev pub invariant-loop-claim : goal.invariant-loop-claim
invariant-loop-claim l = list_any (λ c. is_none c.target) (map said_shape l.claims) ≡ list_any (λ c. is_none c.target) (map said_shape (drop l.claim-index l.claims))
