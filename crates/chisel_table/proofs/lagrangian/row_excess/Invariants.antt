use Rattle.std.proofs.Common.{◌≡◌, ◌≤◌, ◌*◌, ◌^◌}
use Rattle.chisel_table.specs.Sums.{sum_to}
use Rattle.chisel_table.specs.Tables.{spent_at}
use Rattle.chisel_table.specs.Lagrangian.{least_at}
use Rattle.chisel_table.proofs.lagrangian.row_excess.Given as goal

abbrev pub invariant-loop-d : goal.invariant-loop-d
invariant-loop-d l = record {
  value : l.sum ≡ sum_to l.d (least_at l.t (spent_at l.t l.i) l.p);
  bound : l.sum ≤ l.d * 2 ^ 62;
}
