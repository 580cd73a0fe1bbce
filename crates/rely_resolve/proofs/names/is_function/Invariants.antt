use Rattle.std.proofs.Common.{◌≡◌, map, drop}
use Rattle.rely_num.specs.Texts.{is_among}
use Rattle.rely_tree.specs.Shape.{func_shape}
use Rattle.rely_resolve.specs.Names.{function_names}
use Rattle.rely_resolve.proofs.names.is_function.Given as goal

abbrev pub invariant-loop-function : goal.invariant-loop-function
invariant-loop-function l = is_among l.name (function_names (map func_shape l.functions)) ≡ is_among l.name (function_names (map func_shape (drop l.function-index l.functions)))
