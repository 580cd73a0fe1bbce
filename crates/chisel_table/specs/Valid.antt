-- Which tables are valid.
use Rattle.std.specs.Prelude.{ℕ, ◌≡◌, ◌<◌, ◌≤◌, ◌^◌, [], List, length, slice_index_or, pos, neg_ℤ, ◌≤ℤ◌}
use Rattle.chisel_table.specs.declared.table.Table.{Table}
use Rattle.chisel_table.specs.declared.table.TheConstants.{MAX_DECISIONS, MAX_OPTIONS, MAX_ROWS}
use Rattle.chisel_table.specs.Tables.{decision_count, option_count, row_count, row_at, budget_at, spent_at}
use Rattle.chisel_table.specs.Choices.{IsChoice, energy}

-- each row has what every option of every decision spends there, and all numbers are in range, so that no sum leaves 128 bits
pub record IsTable (t : Table) : Type 0 where
  pub some_decisions : 1 ≤ decision_count t
  pub few_decisions : decision_count t ≤ MAX_DECISIONS
  pub some_options : (d : ℕ) → d < decision_count t → 1 ≤ option_count t d
  pub few_options : (d : ℕ) → d < decision_count t → option_count t d ≤ MAX_OPTIONS
  pub some_rows : 1 ≤ row_count t
  pub few_rows : row_count t ≤ MAX_ROWS
  pub widths : (i : ℕ) → i < row_count t → length (row_at t i).spent ≡ decision_count t
  pub shapes : (i d : ℕ) → i < row_count t → d < decision_count t → length (slice_index_or (row_at t i).spent d []) ≡ option_count t d
  pub energies : (c : List ℕ) → IsChoice t c → energy t c < 2 ^ 48
  pub debits : (i d o : ℕ) → i < row_count t → d < decision_count t → o < option_count t d → spent_at t i d o ≤ 2 ^ 62
  pub least_budgets : (i : ℕ) → i < row_count t → neg_ℤ (pos (2 ^ 71)) ≤ℤ budget_at t i
  pub greatest_budgets : (i : ℕ) → i < row_count t → budget_at t i ≤ℤ pos (2 ^ 24)
