use Rattle.std.proofs.Common.{◌≡◌, ◌≤◌, ◌*◌, ◌^◌}
use Rattle.chisel_table.specs.Lagrangian.{least_at, weight}
use Rattle.chisel_table.specs.Sums.{sum_to}
use Rattle.chisel_check.specs.Prices.{scale_of}
use Rattle.chisel_check.proofs.prices.weights_left.Given as goal

abbrev pub invariant-loop-d : goal.invariant-loop-d
invariant-loop-d l = record {
  value : l.sum ≡ sum_to l.d (least_at l.t (weight l.t (scale_of l.priced) l.penalties.vector.now) l.p);
  bound : l.sum ≤ l.d * 2 ^ 114;
}
