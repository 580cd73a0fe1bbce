use Rattle.std.proofs.Common.{◌≡◌, ◌++◌, take, map}
use Rattle.rely_kernel.specs.Machine.{zeros}
use Rattle.rely_inputs.proofs.sample.with_zeros.Given as goal

abbrev pub invariant-loop-var : goal.invariant-loop-var
invariant-loop-var l = l.cells.items ≡ l.fn.before.items ++ map zeros (take l.var-index l.locals)
