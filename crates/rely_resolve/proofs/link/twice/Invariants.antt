use Rattle.std.proofs.Common.{◌≡◌, [], map, take, drop}
use Rattle.rely_tree.specs.Shape.{func_shape}
use Rattle.rely_resolve.specs.Linked.{twice_among}
use Rattle.rely_resolve.specs.Names.{function_names}
use Rattle.rely_resolve.proofs.link.twice.Given as goal

abbrev pub invariant-loop-i : goal.invariant-loop-i
invariant-loop-i l = twice_among (function_names (map func_shape (take l.i l.functions))) (map func_shape (drop l.i l.functions)) ≡ twice_among [] (map func_shape l.functions)
