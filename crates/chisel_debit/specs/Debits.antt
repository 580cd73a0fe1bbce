-- Debits of reliabilities and budgets of bounds: whole numbers in the place of logarithms to a base below one.
use Rattle.std.specs.Prelude.{ℕ, zero, suc, ◌≡◌, ◌*◌, ◌^◌, ◌<◌, ◌≤◌, ◌↔◌, Bool, Option, Some, None, nat_le, unwrap_or, if◌then◌else◌}
use Rattle.rely_num.specs.Bounds.{S}
use Rattle.rely_num.specs.Rounded.{mul_lo, mul_hi}
use Rattle.chisel_debit.specs.declared.reliability.TheConstants.{MAX_DEBIT, BEYOND}

-- the base to the d, rounded up at each product
unfoldable pub up : ℕ → ℕ → ℕ
up base zero = S
up base (suc d) = mul_hi (up base d) base

-- and rounded down
unfoldable pub low : ℕ → ℕ → ℕ
low base zero = S
low base (suc d) = mul_lo (low base d) base

-- the least number up to n at which f holds
unfoldable pub least_upto : ℕ → (ℕ → Bool) → Option ℕ
least_upto zero f = if f zero then Some zero else None
least_upto (suc n) f = elim (least_upto n f) [ Some k ↦ Some k | None ↦ if f (suc n) then Some (suc n) else None ]

-- the greatest
unfoldable pub greatest_upto : ℕ → (ℕ → Bool) → Option ℕ
greatest_upto zero f = if f zero then Some zero else None
greatest_upto (suc n) f = if f (suc n) then Some (suc n) else greatest_upto n f

-- the least d that is counted with the base to the d, rounded up, at most p
unfoldable pub debit : ℕ → ℕ → ℕ
debit base p = unwrap_or (least_upto MAX_DEBIT (λ d. nat_le (up base d) p)) BEYOND

-- the greatest d that is counted with the base to the d, rounded down, at least the bound
unfoldable pub budget : ℕ → ℕ → ℕ
budget base bound = unwrap_or (greatest_upto MAX_DEBIT (λ d. nat_le bound (low base d))) 0

-- ---- what they are

pub record IsDebit (base p d : ℕ) : Type 0 where
  pub covers : d ≤ MAX_DEBIT → up base d ≤ p
  pub least : (k : ℕ) → k < d → k ≤ MAX_DEBIT → p < up base k
  pub beyond : MAX_DEBIT < d → d ≡ BEYOND

pub record IsBudget (base bound d : ℕ) : Type 0 where
  pub counted : d ≤ MAX_DEBIT
  pub keeps : bound ≤ low base d
  pub greatest : (k : ℕ) → d < k → k ≤ MAX_DEBIT → low base k < bound

-- so a debit is told by what it is, and by nothing else
abbrev pub DebitIsLeast : Type 0
DebitIsLeast = (base p d : ℕ) → (d ≡ debit base p) ↔ IsDebit base p d

-- a reliability is at least the base to its debit
abbrev pub DebitCovers : Type 0
DebitCovers = (base p : ℕ) → debit base p ≤ MAX_DEBIT → S * base ^ debit base p ≤ p * S ^ debit base p

abbrev pub BudgetIsGreatest : Type 0
BudgetIsGreatest = (base bound d : ℕ) → bound ≤ S → (d ≡ budget base bound) ↔ IsBudget base bound d

-- the base to the budget is at least the bound
abbrev pub BudgetKeeps : Type 0
BudgetKeeps = (base bound : ℕ) → bound ≤ S → bound * S ^ budget base bound ≤ S * base ^ budget base bound
