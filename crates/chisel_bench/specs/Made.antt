-- Made tables: blocks of small numbers.
use Rattle.std.specs.Prelude.{ℕ, ◌≡◌, ◌<◌, ◌≤◌, ◌^◌, List, [], length, slice_index, slice_index_or}
use Rattle.chisel_table.specs.declared.table.TheConstants.{MAX_DECISIONS, MAX_OPTIONS, MAX_ROWS}
use Rattle.chisel_bench.specs.declared.made.Shape.{Shape}

-- within the limits of tables
pub record IsShape (s : Shape) : Type 0 where
  pub some_decisions : 1 ≤ s.decisions
  pub few_decisions : s.decisions ≤ MAX_DECISIONS
  pub some_options : 1 ≤ s.options
  pub few_options : s.options ≤ MAX_OPTIONS
  pub some_rows : 1 ≤ s.rows
  pub few_rows : s.rows ≤ MAX_ROWS
  pub seed : s.seed ≤ 2 ^ 20
  pub budget : s.budget ≤ 2 ^ 24

-- n numbers, each small
pub record AreNumbers (n : ℕ) (xs : List ℕ) : Type 0 where
  pub size : length xs ≡ n
  pub small : (k : ℕ) → k < n → slice_index xs k ≤ 2 ^ 20

-- n lists of so many numbers
pub record IsBlock (options n : ℕ) (xs : List (List ℕ)) : Type 0 where
  pub size : length xs ≡ n
  pub each : (d : ℕ) → d < n → AreNumbers options (slice_index_or xs d [])
