-- Choices of a table: their energies, the rows that they meet, and their order.
use Rattle.std.specs.Prelude.{ℕ, Bool, ◌≡◌, ◌+◌, ◌<◌, ◌&&◌, ◌||◌, ◌==◌, nat_lt, List, length, slice_index, pos, ◌≤ℤ◌}
use Rattle.chisel_table.specs.declared.table.Table.{Table}
use Rattle.chisel_table.specs.Sums.{sum_to, precedes_to}
use Rattle.chisel_table.specs.Tables.{decision_count, option_count, row_count, energy_at, budget_at, spent_at}

-- one option in range for each decision
pub record IsChoice (t : Table) (c : List ℕ) : Type 0 where
  pub size : length c ≡ decision_count t
  pub in_range : (d : ℕ) → d < decision_count t → slice_index c d < option_count t d

-- the energy of a choice
abbrev pub energy : Table → List ℕ → ℕ
energy t c = t.fixed + sum_to (decision_count t) (λ d. energy_at t d (slice_index c d))

-- what a choice spends in row i
abbrev pub spent : Table → ℕ → List ℕ → ℕ
spent t i c = sum_to (decision_count t) (λ d. spent_at t i d (slice_index c d))

-- in each row the choice spends at most the budget
pub record Meets (t : Table) (c : List ℕ) : Type 0 where
  pub rows : (i : ℕ) → i < row_count t → pos (spent t i c) ≤ℤ budget_at t i

-- by options in order of decision, the lesser number first
abbrev pub precedes : Table → (ℕ → ℕ) → (ℕ → ℕ) → Bool
precedes t a b = precedes_to (decision_count t) a b

-- by energy, then by options in order of decision
abbrev pub before : Table → List ℕ → List ℕ → Bool
before t a b =
    nat_lt (energy t a) (energy t b)
    || (energy t a == energy t b && precedes t (slice_index a) (slice_index b))
