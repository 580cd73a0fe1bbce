-- A grid: a number for each option of each decision.
use Rattle.std.specs.Prelude.{ℕ, ◌≡◌, ◌+◌, ◌*◌, ◌<◌, ◌≤◌, List, length, slice_index}
use Rattle.chisel_table.specs.declared.table.Table.{Table}
use Rattle.chisel_table.specs.declared.table.TheConstants.{MAX_OPTIONS}
use Rattle.chisel_table.specs.Sums.{sum_to}
use Rattle.chisel_table.specs.Tables.{decision_count, option_count, spent_at}

-- the place of option o of decision d
abbrev pub place : ℕ → ℕ → ℕ
place d o = MAX_OPTIONS * d + o

-- the grid has f of each decision and option
pub record Holds (t : Table) (f : ℕ → ℕ → ℕ) (grid : List ℕ) : Type 0 where
  pub size : MAX_OPTIONS * decision_count t ≤ length grid
  pub each : (d o : ℕ) → d < decision_count t → o < option_count t d → slice_index grid (place d o) ≡ f d o

-- what an option spends in the first n rows, each debit times the row's multiplier
abbrev pub penalty_to : Table → List ℕ → ℕ → ℕ → ℕ → ℕ
penalty_to t l n d o = sum_to n (λ i. slice_index l i * spent_at t i d o)

-- there are places for what is spent, where multiples of it can be added below a limit
pub record HasRoom (old : List ℕ) (from multiplier : ℕ) (spent : List ℕ) (limit : ℕ) : Type 0 where
  pub inside : from + length spent ≤ length old
  pub below : (o : ℕ) → o < length spent → slice_index old (from + o) + multiplier * slice_index spent o < limit

-- multiples of what is spent are added to the numbers from a place on, and all others stay
pub record Adds (old : List ℕ) (from multiplier : ℕ) (spent new : List ℕ) : Type 0 where
  pub added : (o : ℕ) → o < length spent → slice_index new (from + o) ≡ slice_index old (from + o) + multiplier * slice_index spent o
  pub before : (k : ℕ) → k < from → slice_index new k ≡ slice_index old k
  pub behind : (k : ℕ) → from + length spent ≤ k → slice_index new k ≡ slice_index old k
