use Rattle.std.proofs.Common.{◌≡◌, ◌+◌}
use Rattle.std.specs.Prelude.{slice_index}
use Rattle.chisel_table.specs.Sums.{sum_to}
use Rattle.chisel_table.specs.Tables.{energy_at}
use Rattle.chisel_table.proofs.choice.options_energy.Given as goal

abbrev pub invariant-loop-d : goal.invariant-loop-d
invariant-loop-d l = l.sum ≡ l.t.fixed + sum_to l.d (λ d. energy_at l.t d (slice_index l.options d))
