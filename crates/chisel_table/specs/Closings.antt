-- What closes a partial choice: no completion of it is worth looking at.
use Rattle.std.specs.Prelude.{ℕ, Bool, false, ◌*◌, ◌&&◌, nat_lt, not, List, [], length, slice_index, slice_index_or, Option, Some, None, pos, ◌-ℤ◌, int_lt}
use Rattle.chisel_table.specs.declared.closing.Close.{Close}
use Rattle.chisel_table.specs.declared.closing.CloseRule.{CloseRule}
use Rattle.chisel_table.specs.declared.closing.CloseRule.TheVariants.{C, I, D, T}
use Rattle.chisel_table.specs.declared.lagrangian.TheConstants.{ENERGY_WEIGHT}
use Rattle.chisel_table.specs.declared.partial.Partial.{Partial}
use Rattle.chisel_table.specs.declared.table.Table.{Table}
use Rattle.chisel_table.specs.Choices.{IsChoice, energy, precedes}
use Rattle.chisel_table.specs.Lagrangian.{value, excess, row_excess}
use Rattle.chisel_table.specs.Partials.{first_option}
use Rattle.chisel_table.specs.Sums.{first_to}
use Rattle.chisel_table.specs.Tables.{row_count}

-- the best choice so far, where there is one, is one of the table
abbrev pub IsBest : Table → Option (List ℕ) → Type 0
IsBest t (Some b) = IsChoice t b
IsBest t None = Unit {0}

-- ---- one rule

-- rule c: even the least debits are above the budget of row i
abbrev pub row_closes : Table → Partial → ℕ → Bool
row_closes t p i = int_lt (pos 0) (row_excess t i p)

-- with a vector of multipliers
-- rule i: even the least debits are above the budgets together
-- rule d: each completion has more energy than the best choice
-- rule t: each has at least its energy, and none of the same energy comes before it
abbrev pub vector_closes : Table → Option (List ℕ) → Partial → CloseRule → List ℕ → Bool
vector_closes t best p I l = int_lt (pos 0) (excess t l p)
vector_closes t (Some b) p D l = int_lt (pos (ENERGY_WEIGHT * energy t b)) (value t l p)
vector_closes t (Some b) p T l =
    int_lt (pos (ENERGY_WEIGHT * energy t b) -ℤ pos ENERGY_WEIGHT) (value t l p)
    && not (precedes t (first_option p) (slice_index b))
vector_closes t best p rule l = false

-- ---- the rules with the numbers of rows and of the vectors of a pool

abbrev pub vector_at : List (List ℕ) → ℕ → List ℕ
vector_at pool j = slice_index_or pool j []

-- a rule holds with row number n, or with vector number n of the pool
abbrev pub rule_closes : Table → List (List ℕ) → Option (List ℕ) → Partial → CloseRule → ℕ → Bool
rule_closes t pool best p C n = nat_lt n (row_count t) && row_closes t p n
rule_closes t pool best p rule n = nat_lt n (length pool) && vector_closes t best p rule (vector_at pool n)

-- the first number with which a rule holds
abbrev pub first_by : Table → List (List ℕ) → Option (List ℕ) → Partial → CloseRule → Option ℕ
first_by t pool best p C = first_to (row_count t) (row_closes t p)
first_by t pool best p rule = first_to (length pool) (λ j. vector_closes t best p rule (vector_at pool j))

-- the rule with its number, where it has one, and else the next
abbrev pub close_or : CloseRule → Option ℕ → Option Close → Option Close
close_or rule (Some n) next = Some (record { rule = rule; index = n })
close_or rule None next = next

-- the first rule that holds, in the order c, i, d, t, with its first number
abbrev pub first_close : Table → List (List ℕ) → Option (List ℕ) → Partial → Option Close
first_close t pool best p =
    close_or C (first_by t pool best p C)
    (close_or I (first_by t pool best p I)
    (close_or D (first_by t pool best p D)
    (close_or T (first_by t pool best p T) None)))
