use Rattle.std.proofs.Common.{◌≡◌, [], map, take, drop}
use Rattle.rely_tree.specs.Shape.{decl_shape}
use Rattle.rely_resolve.specs.Faults.{first_with, twice_faults}
use Rattle.rely_resolve.specs.Names.{names}
use Rattle.rely_resolve.proofs.declarations.twice.Given as goal

abbrev pub invariant-loop-i : goal.invariant-loop-i
invariant-loop-i l = first_with l.first (twice_faults (names (map decl_shape (take l.i l.vars))) (map decl_shape (drop l.i l.vars))) ≡ first_with l.fn.first (twice_faults [] (map decl_shape l.vars))
