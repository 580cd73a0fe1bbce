use Rattle.std.proofs.Common.{◌≡◌, map, drop}
use Rattle.std.specs.List.{position_from}
use Rattle.rely_num.specs.Texts.{same_text}
use Rattle.rely_tree.specs.Shape.{func_shape}
use Rattle.rely_resolve.specs.Names.{place_of, function_names}
use Rattle.rely_resolve.proofs.names.place_of_function.Given as goal

abbrev pub invariant-loop-i : goal.invariant-loop-i
invariant-loop-i l = place_of l.name (function_names (map func_shape l.functions)) ≡ position_from (λ n. same_text n l.name) l.i (function_names (map func_shape (drop l.i l.functions)))
