use Rattle.std.proofs.Common.{◌≡◌, ◌≤◌, ◌^◌}
use Rattle.chisel_table.specs.Lagrangian.{weight}
use Rattle.chisel_table.specs.Sums.{least_to}
use Rattle.chisel_check.specs.Prices.{scale_of}
use Rattle.chisel_check.proofs.prices.least_weight.Given as goal

abbrev pub invariant-loop-option : goal.invariant-loop-option
invariant-loop-option l = record {
  value : l.least ≡ least_to l.option (weight l.t (scale_of l.priced) l.penalties.vector.now l.decision);
  bound : l.least ≤ 2 ^ 114;
}
