-- The debits of an option above the least of its decision, row by row.
use Rattle.std.specs.Prelude.{ℕ, ◌≡◌, ◌-◌, ◌*◌, ◌<◌, List, [], length, slice_index_or}
use Rattle.chisel_table.specs.declared.table.Table.{Table}
use Rattle.chisel_table.specs.declared.table.TheConstants.{MAX_OPTIONS}
use Rattle.chisel_table.specs.Sums.{least_to, list_to}
use Rattle.chisel_table.specs.Tables.{decision_count, option_count, row_count, spent_at}
use Rattle.chisel_table.specs.Grid.{place}

-- what an option spends in row i above the least of its decision
abbrev pub above_least : Table → ℕ → ℕ → ℕ → ℕ
above_least t d o i = spent_at t i d o - least_to (option_count t d) (spent_at t i d)

abbrev pub column : Table → ℕ → ℕ → List ℕ
column t d o = list_to (row_count t) (above_least t d o)

-- the columns of the options whose places are below n
pub record AreColumnsTo (t : Table) (n : ℕ) (columns : List (List ℕ)) : Type 0 where
  pub size : length columns ≡ n
  pub each : (d o : ℕ) → d < decision_count t → o < option_count t d → place d o < n → slice_index_or columns (place d o) [] ≡ column t d o

-- the columns of all options
abbrev pub AreColumns : Table → List (List ℕ) → Type 0
AreColumns t columns = AreColumnsTo t (MAX_OPTIONS * decision_count t) columns
