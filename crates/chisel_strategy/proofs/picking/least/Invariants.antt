use Rattle.std.proofs.Common.{◌≡◌, ◌-◌}
use Rattle.chisel_strategy.specs.Picking.{least_to}
use Rattle.chisel_strategy.proofs.picking.least.Given as goal

abbrev pub invariant-loop-k : goal.invariant-loop-k
invariant-loop-k l = l.least ≡ least_to l.parts (l.k - 1)
