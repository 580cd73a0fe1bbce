-- What fixing one decision changes.
use Rattle.std.specs.Prelude.{ℕ, true, ◌≡◌, ◌<◌, List, slice_index, pos, ◌+ℤ◌}
use Rattle.chisel_table.specs.declared.partial.Partial.{Partial}
use Rattle.chisel_table.specs.declared.partial.TheConstants.{UNFIXED}
use Rattle.chisel_table.specs.declared.table.Table.{Table}
use Rattle.chisel_table.specs.Choices.{IsChoice}
use Rattle.chisel_table.specs.Lagrangian.{penalty, price, value, excess, row_excess}
use Rattle.chisel_table.specs.Partials.{is_unfixed, with_option, nothing_fixed, IsPartial, Completes}
use Rattle.chisel_table.specs.Sums.{least_to}
use Rattle.chisel_table.specs.Tables.{decision_count, option_count, spent_at}
use Rattle.chisel_table.specs.Valid.{IsTable}

-- a decision that is unfixed, and a number that may stand for an option
pub record CanFix (t : Table) (p : Partial) (d o : ℕ) : Type 0 where
  pub decision : d < decision_count t
  pub unfixed : is_unfixed p d ≡ true
  pub option : o < UNFIXED

-- each bound grows by what the option has above the least option of its decision
pub record GrowsByOption (t : Table) (p : Partial) (d o : ℕ) : Type 0 where
  pub value_grows : (l : List ℕ) → value t l (with_option p d o) +ℤ pos (least_to (option_count t d) (price t l d)) ≡ value t l p +ℤ pos (price t l d o)
  pub excess_grows : (l : List ℕ) → excess t l (with_option p d o) +ℤ pos (least_to (option_count t d) (penalty t l d)) ≡ excess t l p +ℤ pos (penalty t l d o)
  pub row_excess_grows : (i : ℕ) → row_excess t i (with_option p d o) +ℤ pos (least_to (option_count t d) (spent_at t i d)) ≡ row_excess t i p +ℤ pos (spent_at t i d o)

abbrev pub FixingGrowsBounds : Type 0
FixingGrowsBounds = (t : Table) (p : Partial) (d o : ℕ) → CanFix t p d o → GrowsByOption t p d o

-- the partial choices with an option of the decision fixed are the table's, and divide its completions
pub record DividesCompletions (t : Table) (p : Partial) (d : ℕ) : Type 0 where
  pub partial : (o : ℕ) → o < option_count t d → IsPartial t (with_option p d o)
  pub within : (o : ℕ) (c : List ℕ) → o < option_count t d → Completes t (with_option p d o) c → Completes t p c
  pub taken : (o : ℕ) (c : List ℕ) → o < option_count t d → Completes t (with_option p d o) c → slice_index c d ≡ o
  pub all : (c : List ℕ) → Completes t p c → Completes t (with_option p d (slice_index c d)) c

abbrev pub FixingDivides : Type 0
FixingDivides =
    (t : Table) (p : Partial) (d : ℕ) → IsTable t → IsPartial t p → d < decision_count t → is_unfixed p d ≡ true
    → DividesCompletions t p d

-- where nothing is fixed, each choice is a completion
abbrev pub NothingFixedIsAll : Type 0
NothingFixedIsAll = (t : Table) (c : List ℕ) → IsTable t → IsChoice t c → Completes t (nothing_fixed t) c
