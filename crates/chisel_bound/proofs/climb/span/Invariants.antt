use Rattle.std.proofs.Common.{◌≡◌, ◌*◌, ◌^◌, ◌≤◌}
use Rattle.chisel_table.specs.Sums.{sum_to}
use Rattle.chisel_table.specs.Tables.{option_count, energy_at}
use Rattle.chisel_bound.specs.Ascent.{spread}
use Rattle.chisel_bound.proofs.climb.span.Given as goal

abbrev pub invariant-loop-d : goal.invariant-loop-d
invariant-loop-d l = record {
  value : l.sum ≡ sum_to l.d (λ d. spread (option_count l.t d) (energy_at l.t d));
  bound : l.sum ≤ l.d * 2 ^ 64;
}
