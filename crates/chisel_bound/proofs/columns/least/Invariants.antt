use Rattle.std.proofs.Common.{◌≡◌}
use Rattle.std.specs.Prelude.{slice_index}
use Rattle.chisel_table.specs.Sums.{least_to}
use Rattle.chisel_bound.proofs.columns.least.Given as goal

abbrev pub invariant-loop-o : goal.invariant-loop-o
invariant-loop-o l = l.least ≡ least_to l.o (slice_index l.debits)
