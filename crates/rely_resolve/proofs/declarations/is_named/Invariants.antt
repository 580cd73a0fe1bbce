use Rattle.std.proofs.Common.{◌≡◌, map, drop}
use Rattle.rely_num.specs.Texts.{is_among}
use Rattle.rely_tree.specs.Shape.{decl_shape}
use Rattle.rely_resolve.specs.Names.{names}
use Rattle.rely_resolve.proofs.declarations.is_named.Given as goal

abbrev pub invariant-loop-var : goal.invariant-loop-var
invariant-loop-var l = is_among l.name (names (map decl_shape l.vars)) ≡ is_among l.name (names (map decl_shape (drop l.var-index l.vars)))
