use Rattle.std.proofs.Common.{◌≡◌, length, take}
use Rattle.rely_kernel.specs.Machine.{argument_items}
use Rattle.rely_kernel.specs.Text.{exprs_of}
use Rattle.rely_kernel.specs.Running.{All-fit, pushed}
use Rattle.rely_machine.specs.Going.{Runs}
use Rattle.rely_machine.proofs.walk.values_of.Given as goal

abbrev pub invariant-loop-e : goal.invariant-loop-e
invariant-loop-e l = Runs l.r (argument_items (exprs_of (take l.e-index l.es))) (λ st. st) (pushed l.values.items) l.held l.fn.tally l.held l.tally × (length l.values.items ≡ l.e-index) × All-fit l.values.items
