use Rattle.std.proofs.Common.{◌≡◌, map, drop}
use Rattle.rely_tree.specs.Shape.{decl_shape, said_shape}
use Rattle.rely_resolve.specs.Faults.{first_with, claims_faults}
use Rattle.rely_resolve.proofs.declarations.claims.Given as goal

abbrev pub invariant-loop-one : goal.invariant-loop-one
invariant-loop-one l = first_with l.first (claims_faults (map decl_shape l.params.list.items) (map said_shape (drop l.one-index l.claims))) ≡ first_with l.fn.first (claims_faults (map decl_shape l.params.list.items) (map said_shape l.claims))
