use Rattle.std.proofs.Common.{map, take}
use Rattle.rely_tree.specs.Shape.{decl_shape}
use Rattle.rely_resolve.specs.Names.{names}
use Rattle.rely_resolve.specs.Table.{Finds}
use Rattle.rely_resolve.proofs.variables.table_of.Given as goal

abbrev pub invariant-loop-i : goal.invariant-loop-i
invariant-loop-i l = Finds l.table (names (map decl_shape (take l.i l.vars)))
