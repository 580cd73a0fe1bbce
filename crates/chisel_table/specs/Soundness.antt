-- What the Lagrangian bounds and the closing rules say of completions.
use Rattle.std.specs.Prelude.{ℕ, true, false, ◌≡◌, ◌*◌, ◌<◌, List, Option, Some, None, pos, ◌≤ℤ◌}
use Rattle.chisel_table.specs.declared.closing.Close.{Close}
use Rattle.chisel_table.specs.declared.closing.CloseRule.{CloseRule}
use Rattle.chisel_table.specs.declared.lagrangian.TheConstants.{ENERGY_WEIGHT}
use Rattle.chisel_table.specs.declared.partial.Partial.{Partial}
use Rattle.chisel_table.specs.declared.table.Table.{Table}
use Rattle.chisel_table.specs.Choices.{Meets, energy, before}
use Rattle.chisel_table.specs.Closings.{vector_closes, rule_closes, first_close}
use Rattle.chisel_table.specs.Lagrangian.{value, excess, row_excess}
use Rattle.chisel_table.specs.Partials.{Completes}
use Rattle.chisel_table.specs.Tables.{row_count}

-- ---- weak duality

-- of completions that meet every row: the bound is at most the weighted energy, and there is no excess
pub record IsRelaxed (t : Table) (p : Partial) (c : List ℕ) : Type 0 where
  pub below_energy : (l : List ℕ) → value t l p ≤ℤ pos (ENERGY_WEIGHT * energy t c)
  pub no_excess : (l : List ℕ) → excess t l p ≤ℤ pos 0
  pub no_row_excess : (i : ℕ) → i < row_count t → row_excess t i p ≤ℤ pos 0

abbrev pub RelaxationIsBound : Type 0
RelaxationIsBound = (t : Table) (p : Partial) (c : List ℕ) → Completes t p c → Meets t c → IsRelaxed t p c

-- ---- closing is sound

-- the choice isn't before the best one; where there is no best one, there is no such choice
abbrev pub IsNoBetter : Table → Option (List ℕ) → List ℕ → Type 0
IsNoBetter t (Some b) c = before t c b ≡ false
IsNoBetter t None c = ⊥

-- no completion that meets every row is before the best choice; where there is no best one, there is no such completion
abbrev pub NoneBetter : Table → Option (List ℕ) → Partial → Type 0
NoneBetter t best p = (c : List ℕ) → Completes t p c → Meets t c → IsNoBetter t best c

-- for any pool, and any multipliers in it
abbrev pub RulesAreSound : Type 0
RulesAreSound =
    (t : Table) (pool : List (List ℕ)) (best : Option (List ℕ)) (p : Partial) (rule : CloseRule) (n : ℕ)
    → rule_closes t pool best p rule n ≡ true → NoneBetter t best p

-- and for a vector that stands in no pool
abbrev pub VectorsAreSound : Type 0
VectorsAreSound =
    (t : Table) (best : Option (List ℕ)) (p : Partial) (rule : CloseRule) (l : List ℕ)
    → vector_closes t best p rule l ≡ true → NoneBetter t best p

-- ---- the first closing rule

-- some rule holds
pub record Closes (t : Table) (pool : List (List ℕ)) (best : Option (List ℕ)) (p : Partial) : Type 0 where
  pub rule : CloseRule
  pub index : ℕ
  pub holds : rule_closes t pool best p rule index ≡ true

abbrev pub FirstCloses : Type 0
FirstCloses =
    (t : Table) (pool : List (List ℕ)) (best : Option (List ℕ)) (p : Partial) (c : Close)
    → first_close t pool best p ≡ Some c → rule_closes t pool best p c.rule c.index ≡ true

abbrev pub NothingCloses : Type 0
NothingCloses =
    (t : Table) (pool : List (List ℕ)) (best : Option (List ℕ)) (p : Partial)
    → first_close t pool best p ≡ None → Closes t pool best p → ⊥

-- ---- a better choice closes no less

-- the second choice isn't before the first
abbrev pub IsAsGood : Table → Option (List ℕ) → Option (List ℕ) → Type 0
IsAsGood t best None = Unit {0}
IsAsGood t (Some a) (Some b) = before t b a ≡ false
IsAsGood t None (Some b) = ⊥

-- what closes with a best choice closes with every better one
abbrev pub ClosesWithBetter : Type 0
ClosesWithBetter =
    (t : Table) (pool : List (List ℕ)) (best better : Option (List ℕ)) (p : Partial)
    → IsAsGood t better best → Closes t pool best p → Closes t pool better p
