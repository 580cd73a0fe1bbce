-- The weights of a decision's options, and the first place of the least of some numbers.
use Rattle.std.specs.Prelude.{ℕ, ◌+◌, ◌*◌, ◌<◌, ◌≤◌, List, slice_index, unwrap_or, ◌==◌}
use Rattle.chisel_table.specs.declared.table.Table.{Table}
use Rattle.chisel_table.specs.Grid.{place}
use Rattle.chisel_table.specs.Sums.{least_to, first_to}
use Rattle.chisel_table.specs.Tables.{option_count, energy_at}

-- an option's energy, times a scale, and its penalty
abbrev pub weighed : ℕ → List ℕ → List ℕ → ℕ → ℕ
weighed scale energies penalties o = scale * slice_index energies o + slice_index penalties o

-- the least of what the options of decision d weigh, with the penalties of a grid
abbrev pub least_on : Table → ℕ → List ℕ → ℕ → ℕ
least_on t scale grid d = least_to (option_count t d) (λ o. scale * energy_at t d o + slice_index grid (place d o))

-- the first number below n at which f is least
abbrev pub least_place : ℕ → (ℕ → ℕ) → ℕ
least_place n f = unwrap_or (first_to n (λ k. f k == least_to n f)) 0

-- k is that number
pub record IsLeastPlace (n : ℕ) (f : ℕ → ℕ) (k : ℕ) : Type 0 where
  pub inside : k < n
  pub least : (j : ℕ) → j < n → f k ≤ f j
  pub first : (j : ℕ) → j < k → f k < f j
