use Rattle.std.proofs.Common.{◌≡◌, ◌++◌, map, drop}
use Rattle.rely_tree.specs.Shape.{decl_shape}
use Rattle.rely_resolve.specs.Kernels.{var_of}
use Rattle.rely_resolve.proofs.kernel.push_vars.Given as goal

abbrev pub invariant-loop-decl : goal.invariant-loop-decl
invariant-loop-decl l = l.vars.items ++ map (var_of l.h l.param) (map decl_shape (drop l.decl-index l.decls)) ≡ l.fn.vars.items ++ map (var_of l.h l.param) (map decl_shape l.decls)
