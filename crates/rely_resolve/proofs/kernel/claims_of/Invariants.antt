use Rattle.std.proofs.Common.{◌≡◌, ◌++◌, map, drop}
use Rattle.rely_tree.specs.Shape.{decl_shape, said_shape}
use Rattle.rely_resolve.specs.Kernels.{claim_of}
use Rattle.rely_resolve.specs.Names.{names}
use Rattle.rely_resolve.proofs.kernel.claims_of.Given as goal

abbrev pub invariant-loop-claim : goal.invariant-loop-claim
invariant-loop-claim l = l.all.items ++ map (claim_of (names (map decl_shape l.params.list.items))) (map said_shape (drop l.claim-index l.claims)) ≡ map (claim_of (names (map decl_shape l.params.list.items))) (map said_shape l.claims)
