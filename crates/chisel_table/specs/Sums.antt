-- Sums, least values, first places and the order of sequences, over the numbers below n.
use Rattle.std.specs.Prelude.{ℕ, zero, suc, Bool, true, false, ◌+◌, min, List, [], ◌∷◌, ◌++◌, Option, Some, None, ◌&&◌, ◌||◌, ◌==◌, nat_lt, ℤ, pos, ◌+ℤ◌, if◌then◌else◌}

-- the sum of f over the numbers below n
unfoldable pub sum_to : ℕ → (ℕ → ℕ) → ℕ
sum_to zero f = 0
sum_to (suc n) f = sum_to n f + f n

-- the same of integers
unfoldable pub int_sum_to : ℕ → (ℕ → ℤ) → ℤ
int_sum_to zero f = pos 0
int_sum_to (suc n) f = int_sum_to n f +ℤ f n

-- the least value of f over the numbers below n, 0 where there is none
unfoldable pub least_to : ℕ → (ℕ → ℕ) → ℕ
least_to zero f = 0
least_to (suc zero) f = f 0
least_to (suc (suc n)) f = min (least_to (suc n) f) (f (suc n))

-- the first number below n at which f holds
unfoldable pub first_to : ℕ → (ℕ → Bool) → Option ℕ
first_to zero f = None
first_to (suc n) f = elim (first_to n f) [ Some k ↦ Some k | None ↦ if f n then Some n else None ]

-- f and g are equal below n
unfoldable pub agree_to : ℕ → (ℕ → ℕ) → (ℕ → ℕ) → Bool
agree_to zero f g = true
agree_to (suc n) f g = agree_to n f g && (f n == g n)

-- f is less than g at the first number below n where they differ
unfoldable pub precedes_to : ℕ → (ℕ → ℕ) → (ℕ → ℕ) → Bool
precedes_to zero f g = false
precedes_to (suc n) f g = precedes_to n f g || (agree_to n f g && nat_lt (f n) (g n))

-- f of each number below n, in order
unfoldable pub list_to : {A : Type 0} → ℕ → (ℕ → A) → List A
list_to zero f = []
list_to (suc n) f = list_to n f ++ (f n ∷ [])
