use Rattle.std.proofs.Common.{◌≡◌, ◌≤◌, map, drop}
use Rattle.rely_tree.specs.Shape.{decl_shape}
use Rattle.rely_resolve.specs.Faults.{limit_faults}
use Rattle.rely_resolve.proofs.declarations.limit.Given as goal

abbrev pub invariant-loop-var : goal.invariant-loop-var
invariant-loop-var l = record {
  few : l.held ≤ 65536;
  same : limit_faults l.held (map decl_shape (drop l.var-index l.vars)) ≡ limit_faults 0 (map decl_shape l.vars);
}
