use Rattle.std.proofs.Common.{◌≡◌, map, drop}
use Rattle.rely_tree.specs.Shape.{decl_shape, func_shape, block_shape}
use Rattle.rely_resolve.specs.Faults.{first_with, block_faults}
use Rattle.rely_resolve.proofs.texts.+stmt.Given as goal

abbrev pub invariant-block-loop-s : goal.invariant-block-loop-s
invariant-block-loop-s l = first_with l.first (block_faults l.scope.h.now (map func_shape l.scope.earlier.now) (map decl_shape l.scope.vars.now.list.items) (block_shape (drop l.s-index l.ss))) ≡ first_with l.fn.first (block_faults l.scope.h.now (map func_shape l.scope.earlier.now) (map decl_shape l.scope.vars.now.list.items) (block_shape l.ss))
