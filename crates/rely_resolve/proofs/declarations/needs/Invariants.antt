use Rattle.std.proofs.Common.{◌≡◌, map, drop}
use Rattle.rely_tree.specs.Shape.{decl_shape, ident_shape}
use Rattle.rely_resolve.specs.Faults.{first_with, needs_faults}
use Rattle.rely_resolve.proofs.declarations.needs.Given as goal

abbrev pub invariant-loop-need : goal.invariant-loop-need
invariant-loop-need l = first_with l.first (needs_faults (map decl_shape l.params.list.items) (map ident_shape (drop l.need-index l.needs))) ≡ first_with l.fn.first (needs_faults (map decl_shape l.params.list.items) (map ident_shape l.needs))
