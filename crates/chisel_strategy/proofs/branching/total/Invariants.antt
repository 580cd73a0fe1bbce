use Rattle.std.proofs.Common.{◌≡◌, ◌*◌, ◌^◌, ◌≤◌}
use Rattle.std.specs.Prelude.{slice_index}
use Rattle.chisel_table.specs.Sums.{sum_to}
use Rattle.chisel_strategy.proofs.branching.total.Given as goal

abbrev pub invariant-loop-o : goal.invariant-loop-o
invariant-loop-o l = record {
  value : l.sum ≡ sum_to l.o (slice_index l.debits);
  bound : l.sum ≤ l.o * 2 ^ 64;
}
