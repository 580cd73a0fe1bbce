-- What the options of decisions add with one vector, written at their places.
use Rattle.std.specs.Prelude.{ℕ, ◌≡◌, ◌≢◌, ◌+◌, ◌*◌, ◌<◌, List, length, slice_index, pos, ◌-ℤ◌}
use Rattle.chisel_table.specs.declared.lagrangian.TheConstants.{ENERGY_WEIGHT}
use Rattle.chisel_table.specs.declared.table.Table.{Table}
use Rattle.chisel_table.specs.Sums.{least_to}
use Rattle.chisel_table.specs.Tables.{decision_count, option_count, energy_at}
use Rattle.chisel_bound.specs.declared.bounds.Bounds.{Bounds}
use Rattle.chisel_bound.specs.declared.bounds.TheConstants.{MAX_VECTORS}
use Rattle.chisel_bound.specs.BoundsAt.{bounds_at}
use Rattle.chisel_table.specs.Grid.{place}
use Rattle.chisel_bound.specs.Weights.{weighed}

-- how far an option's price and penalty lie above the least of its decision
abbrev pub above : List ℕ → List ℕ → ℕ → Bounds
above energies penalties o = record {
  value = pos (weighed ENERGY_WEIGHT energies penalties o) -ℤ pos (least_to (length energies) (weighed ENERGY_WEIGHT energies penalties));
  excess = pos (slice_index penalties o) -ℤ pos (least_to (length energies) (slice_index penalties));
}

-- the numbers of the first n options stand at their places, and all else stays
pub record WritesOptions (energies penalties : List ℕ) (from n : ℕ) (old new : List Bounds) : Type 0 where
  pub size : length new ≡ length old
  pub written : (o : ℕ) → o < n → bounds_at new (from + MAX_VECTORS * o) ≡ above energies penalties o
  pub others : (k : ℕ) → ((o : ℕ) → o < n → k ≢ from + MAX_VECTORS * o) → bounds_at new k ≡ bounds_at old k

-- how far an option's price and penalty lie above the least of its decision, by a grid of penalties
abbrev pub above_in : Table → List ℕ → ℕ → ℕ → Bounds
above_in t grid d o = record {
  value = pos (ENERGY_WEIGHT * energy_at t d o + slice_index grid (place d o)) -ℤ pos (least_to (option_count t d) (λ o. ENERGY_WEIGHT * energy_at t d o + slice_index grid (place d o)));
  excess = pos (slice_index grid (place d o)) -ℤ pos (least_to (option_count t d) (λ o. slice_index grid (place d o)));
}

-- the numbers of vector j are written for the options of the first n decisions, and those of the other vectors stay
pub record WritesVector (t : Table) (grid : List ℕ) (j n : ℕ) (old new : List Bounds) : Type 0 where
  pub size : length new ≡ length old
  pub written : (d o : ℕ) → d < n → d < decision_count t → o < option_count t d → bounds_at new (MAX_VECTORS * place d o + j) ≡ above_in t grid d o
  pub others : (k i : ℕ) → i < MAX_VECTORS → i ≢ j → bounds_at new (MAX_VECTORS * k + i) ≡ bounds_at old (MAX_VECTORS * k + i)
