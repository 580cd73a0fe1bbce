use Rattle.std.proofs.Common.{◌≡◌, ◌≤◌}
use Rattle.std.specs.Prelude.{slice_index}
use Rattle.chisel_table.specs.Sums.{least_to}
use Rattle.chisel_bound.specs.Ascent.{greatest_to}
use Rattle.chisel_bound.proofs.climb.spread.Given as goal

abbrev pub invariant-loop-o : goal.invariant-loop-o
invariant-loop-o l = record {
  least : l.least ≡ least_to l.o (slice_index l.energies);
  greatest : l.greatest ≡ greatest_to l.o (slice_index l.energies);
  order : l.least ≤ l.greatest;
}
