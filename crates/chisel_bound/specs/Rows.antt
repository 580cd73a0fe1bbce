-- Columns added to the excesses of rows, and taken away.
use Rattle.std.specs.Prelude.{ℕ, Bool, int_lt, ◌≡◌, ◌≢◌, ◌<◌, ◌^◌, List, length, slice_index, slice_index_or, ℤ, pos, neg_ℤ, ◌+ℤ◌, ◌-ℤ◌, ◌≤ℤ◌}
use Rattle.chisel_table.specs.declared.partial.TheConstants.{UNFIXED}
use Rattle.chisel_table.specs.declared.table.Table.{Table}
use Rattle.chisel_table.specs.Tables.{option_count}

-- an option of the decision, or that it is unfixed
abbrev pub IsSlot : Table → ℕ → ℕ → Type 0
IsSlot t d slot = slot ≢ UNFIXED → slot < option_count t d

-- the excess of row i
abbrev pub excess_at : List ℤ → ℕ → ℤ
excess_at es i = slice_index_or es i (pos 0)

-- no completion meets row i
abbrev pub is_exceeded : List ℤ → ℕ → Bool
is_exceeded es i = int_lt (pos 0) (excess_at es i)

-- with the column added no excess is near the end of its range
pub record CanAdd (old : List ℤ) (column : List ℕ) : Type 0 where
  pub fits : (i : ℕ) → i < length column → (excess_at old i +ℤ pos (slice_index column i)) ≤ℤ pos (2 ^ 100)

-- and with the column taken away
pub record CanTake (old : List ℤ) (column : List ℕ) : Type 0 where
  pub fits : (i : ℕ) → i < length column → neg_ℤ (pos (2 ^ 100)) ≤ℤ (excess_at old i -ℤ pos (slice_index column i))

-- each excess has grown by the column's number
pub record AddsColumn (old : List ℤ) (column : List ℕ) (new : List ℤ) : Type 0 where
  pub size : length new ≡ length old
  pub each : (i : ℕ) → i < length column → excess_at new i ≡ excess_at old i +ℤ pos (slice_index column i)

-- each excess has lost the column's number
pub record TakesColumn (old : List ℤ) (column : List ℕ) (new : List ℤ) : Type 0 where
  pub size : length new ≡ length old
  pub each : (i : ℕ) → i < length column → excess_at new i ≡ excess_at old i -ℤ pos (slice_index column i)
