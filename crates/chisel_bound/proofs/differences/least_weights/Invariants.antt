use Rattle.std.proofs.Common.{◌≡◌, ◌*◌, ◌^◌, ◌≤◌}
use Rattle.chisel_table.specs.Sums.{sum_to}
use Rattle.chisel_bound.specs.Weights.{least_on}
use Rattle.chisel_bound.proofs.differences.least_weights.Given as goal

abbrev pub invariant-loop-d : goal.invariant-loop-d
invariant-loop-d l = record {
  value : l.sum ≡ sum_to l.d (least_on l.t l.scale l.grid);
  bound : l.sum ≤ l.d * 2 ^ 114;
}
