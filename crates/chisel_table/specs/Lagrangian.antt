-- The Lagrangian relaxation of a table: rows become prices, and each decision is then taken by itself.
use Rattle.std.specs.Prelude.{ℕ, ◌≡◌, ◌+◌, ◌*◌, ◌<◌, ◌≤◌, List, length, slice_index, if◌then◌else◌, ℤ, pos, ◌-ℤ◌, ◌*ℤ◌}
use Rattle.chisel_table.specs.declared.lagrangian.TheConstants.{ENERGY_WEIGHT, MAX_MULTIPLIER}
use Rattle.chisel_table.specs.declared.partial.Partial.{Partial}
use Rattle.chisel_table.specs.declared.table.Table.{Table}
use Rattle.chisel_table.specs.Partials.{slot, is_unfixed}
use Rattle.chisel_table.specs.Sums.{sum_to, int_sum_to, least_to}
use Rattle.chisel_table.specs.Tables.{decision_count, option_count, row_count, energy_at, budget_at, spent_at}

-- a vector of multipliers: one in range for each row
pub record IsVector (t : Table) (l : List ℕ) : Type 0 where
  pub size : length l ≡ row_count t
  pub in_range : (i : ℕ) → i < row_count t → slice_index l i ≤ MAX_MULTIPLIER

-- what an option spends, each debit times the multiplier of its row
abbrev pub penalty : Table → List ℕ → ℕ → ℕ → ℕ
penalty t l d o = sum_to (row_count t) (λ i. slice_index l i * spent_at t i d o)

-- its energy on a scale, and its penalty
abbrev pub weight : Table → ℕ → List ℕ → ℕ → ℕ → ℕ
weight t scale l d o = scale * energy_at t d o + penalty t l d o

abbrev pub price : Table → List ℕ → ℕ → ℕ → ℕ
price t l = weight t ENERGY_WEIGHT l

-- the budgets, each times the multiplier of its row
abbrev pub allowance : Table → List ℕ → ℤ
allowance t l = int_sum_to (row_count t) (λ i. pos (slice_index l i) *ℤ budget_at t i)

-- the least of f over the options of decision d that are left
abbrev pub least_at : Table → (ℕ → ℕ → ℕ) → Partial → ℕ → ℕ
least_at t f p d = if is_unfixed p d then least_to (option_count t d) (f d) else f d (slot p d)

-- the sum of these over all decisions
abbrev pub least_sum : Table → (ℕ → ℕ → ℕ) → Partial → ℕ
least_sum t f p = sum_to (decision_count t) (least_at t f p)

-- the Lagrangian bound: below the weighted energy of each completion that meets every row
abbrev pub value : Table → List ℕ → Partial → ℤ
value t l p = pos (ENERGY_WEIGHT * t.fixed + least_sum t (price t l) p) -ℤ allowance t l

-- what each completion spends above the budgets at least, under the multipliers
abbrev pub excess : Table → List ℕ → Partial → ℤ
excess t l p = pos (least_sum t (penalty t l) p) -ℤ allowance t l

-- what each completion spends above the budget of row i at least
abbrev pub row_excess : Table → ℕ → Partial → ℤ
row_excess t i p = pos (least_sum t (spent_at t i) p) -ℤ budget_at t i
