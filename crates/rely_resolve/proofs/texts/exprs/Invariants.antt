use Rattle.std.proofs.Common.{◌≡◌, map, drop}
use Rattle.rely_tree.specs.Shape.{decl_shape, expr_shape}
use Rattle.rely_resolve.specs.Faults.{first_with, exprs_faults}
use Rattle.rely_resolve.proofs.texts.exprs.Given as goal

abbrev pub invariant-loop-e : goal.invariant-loop-e
invariant-loop-e l = first_with l.first (exprs_faults l.scope.h.now (map decl_shape l.scope.vars.now.list.items) (map expr_shape (drop l.e-index l.es))) ≡ first_with l.fn.first (exprs_faults l.scope.h.now (map decl_shape l.scope.vars.now.list.items) (map expr_shape l.es))
