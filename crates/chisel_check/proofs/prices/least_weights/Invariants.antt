use Rattle.std.proofs.Common.{◌≡◌, ℕ, ◌<◌, ◌≤◌, ◌^◌, length, get_or}
use Rattle.chisel_table.specs.declared.table.TheConstants.{MAX_DECISIONS}
use Rattle.chisel_table.specs.Lagrangian.{weight}
use Rattle.chisel_table.specs.Sums.{least_to}
use Rattle.chisel_table.specs.Tables.{option_count}
use Rattle.chisel_check.specs.Prices.{scale_of}
use Rattle.chisel_check.proofs.prices.least_weights.Given as goal

abbrev pub invariant-loop-d : goal.invariant-loop-d
invariant-loop-d l = record {
  size : length l.weights ≡ MAX_DECISIONS;
  least : (d : ℕ) → d < l.d → get_or l.weights d 0 ≡ least_to (option_count l.t d) (weight l.t (scale_of l.priced) l.penalties.vector.now d);
  bound : (d : ℕ) → d < l.d → get_or l.weights d 0 ≤ 2 ^ 114;
}
