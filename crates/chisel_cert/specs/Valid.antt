-- When a certificate is valid for a table.
use Rattle.std.specs.Prelude.{ℕ, Bool, true, ◌≡◌, ◌+◌, ◌<◌, List, slice_index_or, Option, Some, None, pos}
use Rattle.chisel_table.specs.declared.partial.Partial.{Partial}
use Rattle.chisel_table.specs.declared.table.Table.{Table}
use Rattle.chisel_table.specs.Choices.{IsChoice, Meets, energy, spent}
use Rattle.chisel_table.specs.Closings.{vector_closes, rule_closes}
use Rattle.chisel_table.specs.Partials.{is_unfixed, with_option, nothing_fixed}
use Rattle.chisel_table.specs.Tables.{decision_count, option_count, row_count, budget_at}
use Rattle.chisel_cert.specs.declared.cert.Restated.{Restated}
use Rattle.chisel_cert.specs.Tree.{Closing, pooled, own, Tree, leaf, branch, Trees, nil, cons, count, Certificate}

-- the rule of a leaf holds, with a vector of the pool or its own, beside the choice as the best one
abbrev pub closing_holds : Table → List (List ℕ) → Option (List ℕ) → Partial → Closing → Bool
closing_holds t pool choice p (pooled close) = rule_closes t pool choice p close.rule close.index
closing_holds t pool choice p (own rule vector) = vector_closes t choice p rule vector

-- each leaf closes its part, and each branch has an unfixed decision and for each of its options a valid tree of the part with that option
unfoldable mutual
  pub IsValid : Table → List (List ℕ) → Option (List ℕ) → Partial → Tree → Type 0
  IsValid t pool choice p (leaf closing) = closing_holds t pool choice p closing ≡ true
  IsValid t pool choice p (branch d children) =
      (d < decision_count t) × (is_unfixed p d ≡ true) × (count children ≡ option_count t d) × AreValid t pool choice p d 0 children

  -- the trees of the options from o on
  pub AreValid : Table → List (List ℕ) → Option (List ℕ) → Partial → ℕ → ℕ → Trees → Type 0
  AreValid t pool choice p d o nil = Unit {0}
  AreValid t pool choice p d o (cons tree rest) =
      IsValid t pool choice (with_option p d o) tree × AreValid t pool choice p d (o + 1) rest

-- the choice is one of the table that meets every row, or there is none
abbrev pub IsClaimed : Table → Option (List ℕ) → Type 0
IsClaimed t (Some options) = IsChoice t options × Meets t options
IsClaimed t None = Unit {0}

abbrev pub energy_of : Table → Option (List ℕ) → Option ℕ
energy_of t (Some options) = Some (energy t options)
energy_of t None = None

abbrev pub spent_by : Table → ℕ → Option (List ℕ) → Option ℕ
spent_by t i (Some options) = Some (spent t i options)
spent_by t i None = None

-- row i told again: its budget, and what the choice spends of it
abbrev pub restated_row : Table → Option (List ℕ) → ℕ → Restated
restated_row t choice i = record { budget = budget_at t i; spent = spent_by t i choice }

-- the row that the certificate tells again
abbrev pub restated_at : List Restated → ℕ → Restated
restated_at restated i = slice_index_or restated i (record { budget = pos 0; spent = None })

-- a certificate is valid for a table, whoever made it
pub record IsValidFor (t : Table) (c : Certificate) : Type 0 where
  pub decisions_are : c.decisions ≡ decision_count t
  pub rows_are : c.rows ≡ row_count t
  pub choice_meets : IsClaimed t c.choice
  pub energy_is : c.energy ≡ energy_of t c.choice
  pub restated_are : c.version ≡ 2 → (i : ℕ) → i < row_count t → restated_at c.restated i ≡ restated_row t c.choice i
  pub tree_is : IsValid t c.pool c.choice (nothing_fixed t) c.root
