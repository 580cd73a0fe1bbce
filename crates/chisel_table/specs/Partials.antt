-- Partial choices: the decisions that are fixed, and the choices that complete them.
use Rattle.std.specs.Prelude.{ℕ, Bool, ◌≡◌, ◌≢◌, ◌<◌, ◌==◌, List, slice_index, slice_set, replicate, if◌then◌else◌}
use Rattle.chisel_table.specs.declared.partial.Partial.{Partial}
use Rattle.chisel_table.specs.declared.partial.TheConstants.{UNFIXED}
use Rattle.chisel_table.specs.declared.table.Table.{Table}
use Rattle.chisel_table.specs.declared.table.TheConstants.{MAX_DECISIONS}
use Rattle.chisel_table.specs.Choices.{IsChoice}
use Rattle.chisel_table.specs.Tables.{decision_count, option_count}

-- the option of decision d, or that it is unfixed
abbrev pub slot : Partial → ℕ → ℕ
slot p d = slice_index p.slots d

abbrev pub is_unfixed : Partial → ℕ → Bool
is_unfixed p d = slot p d == UNFIXED

-- the partial choice with option o of decision d fixed
abbrev pub with_option : Partial → ℕ → ℕ → Partial
with_option p d o = record p { slots = slice_set p.slots d o }

abbrev pub nothing_fixed : Table → Partial
nothing_fixed t = record { size = decision_count t; slots = replicate MAX_DECISIONS UNFIXED }

-- a partial choice of the table: each fixed option is in range
pub record IsPartial (t : Table) (p : Partial) : Type 0 where
  pub size : p.size ≡ decision_count t
  pub in_range : (d : ℕ) → d < decision_count t → slot p d ≢ UNFIXED → slot p d < option_count t d

-- a choice that takes each fixed option
pub record Completes (t : Table) (p : Partial) (c : List ℕ) : Type 0 where
  pub choice : IsChoice t c
  pub fixed : (d : ℕ) → d < decision_count t → slot p d ≢ UNFIXED → slice_index c d ≡ slot p d

-- the options of the first completion: each fixed one, and else the first
abbrev pub first_option : Partial → ℕ → ℕ
first_option p d = if is_unfixed p d then 0 else slot p d
