use Rattle.std.proofs.Common.{◌≡◌, map, drop, is_some}
use Rattle.std.specs.List.{list_any}
use Rattle.rely_tree.specs.Shape.{decl_shape}
use Rattle.rely_resolve.proofs.calls.any_array.Given as goal

abbrev pub invariant-loop-param : goal.invariant-loop-param
invariant-loop-param l = list_any (λ d. is_some d.length) (map decl_shape l.params) ≡ list_any (λ d. is_some d.length) (map decl_shape (drop l.param-index l.params))
