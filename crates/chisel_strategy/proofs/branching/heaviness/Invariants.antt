use Rattle.std.proofs.Common.{◌≡◌, ◌*◌, ◌^◌, ◌≤◌}
use Rattle.chisel_table.specs.Sums.{sum_to}
use Rattle.chisel_table.specs.Tables.{option_count, spent_at}
use Rattle.chisel_strategy.proofs.branching.heaviness.Given as goal

abbrev pub invariant-loop-i : goal.invariant-loop-i
invariant-loop-i l = record {
  value : l.sum ≡ sum_to l.i (λ i. sum_to (option_count l.t l.decision) (spent_at l.t i l.decision));
  bound : l.sum ≤ l.i * 2 ^ 68;
}
