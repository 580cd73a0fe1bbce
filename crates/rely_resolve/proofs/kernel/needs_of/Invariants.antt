use Rattle.std.proofs.Common.{◌≡◌, map, drop}
use Rattle.rely_tree.specs.Shape.{decl_shape, ident_shape}
use Rattle.rely_resolve.specs.Kernels.{needs_of}
use Rattle.rely_resolve.specs.Names.{names}
use Rattle.rely_resolve.proofs.kernel.needs_of.Given as goal

abbrev pub invariant-loop-need : goal.invariant-loop-need
invariant-loop-need l = needs_of (names (map decl_shape l.params.list.items)) l.set.bits (map ident_shape (drop l.need-index l.needs)) ≡ needs_of (names (map decl_shape l.params.list.items)) 0 (map ident_shape l.needs)
