-- The bounds that a search keeps for a partial choice, and what fixing one more decision adds to them.
use Rattle.std.specs.Prelude.{ℕ, ◌≡◌, ◌+◌, ◌*◌, ◌<◌, ◌≤◌, List, length, map, slice_range, Option, Some, None, pos, ◌-ℤ◌}
use Rattle.std.specs.Borrow.{Bor}
use Rattle.chisel_table.specs.declared.closing.Close.{Close}
use Rattle.chisel_table.specs.declared.partial.Partial.{Partial}
use Rattle.chisel_table.specs.declared.table.Table.{Table}
use Rattle.chisel_table.specs.declared.table.TheConstants.{MAX_DECISIONS, MAX_OPTIONS}
use Rattle.chisel_table.specs.Choices.{IsChoice, energy}
use Rattle.chisel_table.specs.Closings.{first_close, vector_at}
use Rattle.chisel_table.specs.Lagrangian.{penalty, price, value, excess, row_excess}
use Rattle.chisel_table.specs.Partials.{IsPartial}
use Rattle.chisel_table.specs.Sums.{least_to, list_to}
use Rattle.chisel_table.specs.Tables.{decision_count, option_count, row_count}
use Rattle.chisel_table.specs.Valid.{IsTable}
use Rattle.chisel_bound.specs.declared.bounds.Bounds.{Bounds}
use Rattle.chisel_bound.specs.declared.bounds.Kept.{Kept}
use Rattle.chisel_bound.specs.declared.bounds.TheConstants.{MAX_VECTORS}
use Rattle.chisel_bound.specs.declared.differences.Differences.{Differences}
use Rattle.chisel_bound.specs.declared.rows.RowSums.{RowSums}
use Rattle.chisel_bound.specs.declared.keeping.Best.{Best}
use Rattle.chisel_bound.specs.BoundsAt.{bounds_at}
use Rattle.chisel_bound.specs.Columns.{AreColumns}
use Rattle.chisel_table.specs.Grid.{place}
use Rattle.chisel_bound.specs.Pool.{IsPool}

-- ---- bounds

-- the bounds of a partial choice with the multipliers l
abbrev pub bounds_with : Table → Partial → List ℕ → Bounds
bounds_with t p l = record { value = value t l p; excess = excess t l p }

-- with each vector of a pool
abbrev pub bounds_of : Table → List (List ℕ) → Partial → List Bounds
bounds_of t pool p = map (bounds_with t p) pool

-- among the bounds of a list are those of a kept partial choice
pub record IsKept (t : Table) (pool : List (List ℕ)) (bounds : List Bounds) (k : Kept) : Type 0 where
  pub inside : k.from + length pool ≤ length bounds
  pub part : slice_range bounds k.from (k.from + length pool) ≡ bounds_of t pool k.partial

-- ---- what an option adds

-- how far its price and its penalty lie above the least of its decision
abbrev pub added_by : Table → ℕ → ℕ → List ℕ → Bounds
added_by t d o l = record {
  value = pos (price t l d o) -ℤ pos (least_to (option_count t d) (price t l d));
  excess = pos (penalty t l d o) -ℤ pos (least_to (option_count t d) (penalty t l d));
}

-- the place of what an option adds with vector j
abbrev pub spot : ℕ → ℕ → ℕ → ℕ
spot d o j = MAX_VECTORS * place d o + j

-- what each option adds with each vector stands at its place
pub record AreAdded (t : Table) (pool : List (List ℕ)) (added : List Bounds) : Type 0 where
  pub size : length added ≡ MAX_VECTORS * (MAX_OPTIONS * decision_count t)
  pub each : (d o j : ℕ) → d < decision_count t → o < option_count t d → j < length pool → bounds_at added (spot d o j) ≡ added_by t d o (vector_at pool j)

-- the differences of a valid table and a pool of few vectors
pub record AreDifferences (d : Differences) : Type 0 where
  pub table : IsTable d.table.now
  pub pool : IsPool d.table.now d.pool.now.vectors
  pub few : length d.pool.now.vectors ≤ MAX_VECTORS
  pub added : AreAdded d.table.now d.pool.now.vectors d.added.items
  pub columns : AreColumns d.table.now d.columns.items

-- the bounds of a partial choice with their table and pool
abbrev pub all_bounds : Differences → Partial → List Bounds
all_bounds d p = bounds_of d.table.now d.pool.now.vectors p

-- a partial choice whose bounds are put behind those of a list
abbrev pub kept_behind : List Bounds → Partial → Kept
kept_behind bounds p = record { partial = p; from = length bounds }

-- the first rule that closes a partial choice of their table, with their pool
abbrev pub first_rule : Differences → Option (List ℕ) → Partial → Option Close
first_rule d best p = first_close d.table.now d.pool.now.vectors best p

-- ---- rows

-- the excess of each row at a partial choice of the table
pub record AreRowSums (t : Table) (r : RowSums) : Type 0 where
  pub room : length r.partial.slots ≡ MAX_DECISIONS
  pub partial : IsPartial t r.partial
  pub excesses : r.excesses.items ≡ list_to (row_count t) (λ i. row_excess t i r.partial)

-- ---- the best choice

-- a choice of the table with its energy
pub record IsBestKept (t : Table) (b : Best) : Type 0 where
  pub choice : IsChoice t b.options
  pub energy : b.energy ≡ energy t b.options

abbrev pub best_options : Option (Bor Best) → Option (List ℕ)
best_options (Some b) = Some b.now.options
best_options None = None

abbrev pub IsBestWithEnergy : Table → Option (Bor Best) → Type 0
IsBestWithEnergy t (Some b) = IsBestKept t b.now
IsBestWithEnergy t None = Unit {0}
