use Rattle.std.proofs.Common.{◌≡◌, map, drop}
use Rattle.rely_tree.specs.Shape.{decl_shape}
use Rattle.rely_resolve.specs.Faults.{first_with, memories_faults}
use Rattle.rely_resolve.proofs.declarations.memories.Given as goal

abbrev pub invariant-loop-var : goal.invariant-loop-var
invariant-loop-var l = first_with l.first (memories_faults l.listed (map decl_shape (drop l.var-index l.vars))) ≡ first_with l.fn.first (memories_faults l.listed (map decl_shape l.vars))
