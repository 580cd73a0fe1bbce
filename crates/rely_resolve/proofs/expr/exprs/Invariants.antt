use Rattle.std.proofs.Common.{◌≡◌, ◌+◌, ◌++◌, map, drop, length}
use Rattle.std.specs.List.{AllByRecursion}
use Rattle.rely_tree.specs.Shape.{decl_shape, expr_shape}
use Rattle.rely_tree.specs.Counts.{exprs_operators}
use Rattle.rely_resolve.specs.Kernels.{exs_of, exprs_sites}
use Rattle.rely_tree.specs.Limits.{IsExpr}
use Rattle.rely_resolve.specs.Names.{names}
use Rattle.rely_resolve.proofs.expr.exprs.Given as goal

abbrev pub invariant-loop-e : goal.invariant-loop-e
invariant-loop-e l = record {
  numbers : AllByRecursion IsExpr (map expr_shape (drop l.e-index l.es));
  len : length l.sites.items + exprs_operators (map expr_shape (drop l.e-index l.es)) ≡ length l.fn.sites.items + exprs_operators (map expr_shape l.es);
  sites : l.sites.items ++ exprs_sites l.means.h.now (map expr_shape (drop l.e-index l.es)) ≡ l.fn.sites.items ++ exprs_sites l.means.h.now (map expr_shape l.es);
  same :
      l.all.items ++ exs_of (names (map decl_shape l.means.vars.now.list.items)) (length l.sites.items) (map expr_shape (drop l.e-index l.es))
      ≡ exs_of (names (map decl_shape l.means.vars.now.list.items)) (length l.fn.sites.items) (map expr_shape l.es);
}
