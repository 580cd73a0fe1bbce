use Rattle.std.proofs.Common.{◌≡◌, take}
use Rattle.std.specs.Prelude.{sum_by}
use Rattle.rely_kernel.specs.Machine.{size}
use Rattle.rely_machine.proofs.function.Function.numbers.Given as goal

abbrev pub invariant-loop-var : goal.invariant-loop-var
invariant-loop-var l = l.numbers ≡ sum_by size (take l.var-index l.var-items)
