-- Debits that stay within a budget keep the product of the reliabilities at the bound.
use Rattle.std.specs.Prelude.{ℕ, ◌≡◌, ◌+◌, ◌*◌, ◌^◌, ◌≤◌, List, [], ◌∷◌, length, sum}
use Rattle.rely_num.specs.Bounds.{S}
use Rattle.rely_num.specs.Products.{product}
use Rattle.chisel_debit.specs.Debits.{debit, budget}

-- what the counts spend of a budget, label by label: each count times the debit of its rate
abbrev pub spent : ℕ → List ℕ → List ℕ → ℕ
spent base [] ns = 0
spent base (r ∷ rs) [] = 0
spent base (r ∷ rs) (n ∷ ns) = n * debit base r + spent base rs ns

-- the exact product of the rates, each to the power of its count, is at least the bound
abbrev pub KeepsBound : List ℕ → List ℕ → ℕ → Type 0
KeepsBound rates counts bound = bound * S ^ sum counts ≤ product rates counts * S

abbrev pub BudgetsKeepBounds : Type 0
BudgetsKeepBounds =
    (base bound : ℕ) (rates counts : List ℕ) → base ≤ S → bound ≤ S → length rates ≡ length counts
    → spent base rates counts ≤ budget base bound → KeepsBound rates counts bound
