use Rattle.std.proofs.Common.{◌≡◌, ◌*◌, ◌^◌}
use Rattle.std.specs.Prelude.{slice_index}
use lib.IntN.{pos, neg_ℤ, ◌*ℤ◌}
use lib.Signed.{◌≤ℤ◌}
use Rattle.chisel_table.specs.Sums.{int_sum_to}
use Rattle.chisel_table.specs.Tables.{budget_at}
use Rattle.chisel_table.proofs.lagrangian.allowance.Given as goal

abbrev pub invariant-loop-i : goal.invariant-loop-i
invariant-loop-i l = record {
  value : l.sum ≡ int_sum_to l.i (λ i. pos (slice_index l.l i) *ℤ budget_at l.t i);
  least : neg_ℤ (pos (l.i * 2 ^ 111)) ≤ℤ l.sum;
  greatest : l.sum ≤ℤ pos (l.i * 2 ^ 111);
}
