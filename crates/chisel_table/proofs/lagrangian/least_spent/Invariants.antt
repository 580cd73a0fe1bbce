use Rattle.std.proofs.Common.{◌≡◌, ◌≤◌, ◌^◌}
use Rattle.chisel_table.specs.Sums.{least_to}
use Rattle.chisel_table.specs.Tables.{spent_at}
use Rattle.chisel_table.proofs.lagrangian.least_spent.Given as goal

abbrev pub invariant-loop-option : goal.invariant-loop-option
invariant-loop-option l = record {
  value : l.least ≡ least_to l.option (spent_at l.t l.row l.decision);
  bound : l.least ≤ 2 ^ 62;
}
