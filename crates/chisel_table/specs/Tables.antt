-- What stands in a table: an energy for each option of each decision, and what it spends in each row.
use Rattle.std.specs.Prelude.{ℕ, [], length, slice_index, slice_index_or, ℤ, pos}
use Rattle.chisel_table.specs.declared.table.Row.{Row}
use Rattle.chisel_table.specs.declared.table.Table.{Table}

-- how many decisions there are to take
abbrev pub decision_count : Table → ℕ
decision_count t = length t.energies

-- how many options decision d has
abbrev pub option_count : Table → ℕ → ℕ
option_count t d = length (slice_index_or t.energies d [])

-- how many rows there are to meet
abbrev pub row_count : Table → ℕ
row_count t = length t.rows

-- the energy of option o of decision d
abbrev pub energy_at : Table → ℕ → ℕ → ℕ
energy_at t d o = slice_index (slice_index_or t.energies d []) o

abbrev pub row_at : Table → ℕ → Row
row_at t i = slice_index_or t.rows i (record { budget = pos 0; spent = [] })

-- the budget of row i
abbrev pub budget_at : Table → ℕ → ℤ
budget_at t i = (row_at t i).budget

-- the debit that option o of decision d spends in row i
abbrev pub spent_at : Table → ℕ → ℕ → ℕ → ℕ
spent_at t i d o = slice_index (slice_index_or (row_at t i).spent d []) o
