-- Pools of vectors of multipliers, and the best choice that is handed to a closing rule.
use Rattle.std.specs.Prelude.{ℕ, ◌≡◌, ◌<◌, ◌^◌, List, length, slice_index, Option, Some, None}
use Rattle.std.specs.Borrow.{Bor}
use Rattle.chisel_table.specs.declared.choice.Choice.{Choice}
use Rattle.chisel_table.specs.declared.closing.CloseRule.{CloseRule}
use Rattle.chisel_table.specs.declared.partial.Partial.{Partial}
use Rattle.chisel_table.specs.declared.table.Table.{Table}
use Rattle.chisel_table.specs.Closings.{vector_at, vector_closes}
use Rattle.chisel_table.specs.Lagrangian.{IsVector}
use Rattle.chisel_table.specs.Sums.{first_to}

-- vectors of the table, whose numbers a certificate can name
pub record IsPool (t : Table) (pool : List (List ℕ)) : Type 0 where
  pub few : length pool < 2 ^ 32
  pub vectors : (j : ℕ) → j < length pool → IsVector t (vector_at pool j)

-- the first vector is all zeros
pub record BeginsWithZeros (pool : List (List ℕ)) : Type 0 where
  pub some : 0 < length pool
  pub zeros : (i : ℕ) → slice_index (vector_at pool 0) i ≡ 0

-- the options of the best choice, where there is one
abbrev pub options_of : Option (Bor Choice) → Option (List ℕ)
options_of (Some b) = Some b.now.options
options_of None = None

-- the first vector with which a rule closes a partial choice
abbrev pub first_with : Table → List (List ℕ) → Option (List ℕ) → Partial → CloseRule → Option ℕ
first_with t pool best p rule = first_to (length pool) (λ j. vector_closes t best p rule (vector_at pool j))
