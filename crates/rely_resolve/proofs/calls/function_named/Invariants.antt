use Rattle.std.proofs.Common.{◌≡◌, map, drop, find}
use Rattle.rely_num.specs.Texts.{same_text}
use Rattle.rely_tree.specs.Shape.{func_shape}
use Rattle.rely_resolve.proofs.calls.function_named.Given as goal

abbrev pub invariant-loop-function : goal.invariant-loop-function
invariant-loop-function l = find (λ g. same_text g.name.text l.name) (map func_shape l.functions) ≡ find (λ g. same_text g.name.text l.name) (map func_shape (drop l.function-index l.functions))
