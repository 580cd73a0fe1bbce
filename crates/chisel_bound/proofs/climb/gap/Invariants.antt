use Rattle.std.proofs.Common.{◌≡◌, ◌*◌, ◌^◌, ◌≤◌}
use Rattle.std.specs.Prelude.{slice_index}
use Rattle.chisel_table.specs.Sums.{sum_to}
use Rattle.chisel_table.specs.Tables.{spent_at}
use Rattle.chisel_bound.proofs.climb.gap.Given as goal

abbrev pub invariant-loop-d : goal.invariant-loop-d
invariant-loop-d l = record {
  value : l.sum ≡ sum_to l.d (λ d. spent_at l.t l.row d (slice_index l.options d));
  bound : l.sum ≤ l.d * 2 ^ 62;
}
