-- Items put in the place of others, one after another.
use Rattle.std.proofs.Common.{◌≡◌, ℕ, zero, suc, ◌+◌, ◌<◌, ◌≤◌, List, [], ◌∷◌, ◌++◌, take, drop, length, get_or, replicate, refl, ap, subst, arith}
use Rattle.std.specs.Prelude.{slice_set}

-- the first i of some, and the others from there
pub mixed_long : {X : Type 0} (ss xs : List X) (i : ℕ) → i ≤ length ss → i ≤ length xs → length (take i ss ++ drop i xs) ≡ length xs
mixed_long ss xs zero le below = refl
mixed_long [] xs (suc i) le below = absurd (omega (arith, le))
mixed_long (s ∷ ss) [] (suc i) le below = absurd (omega (arith, below))
mixed_long (s ∷ ss) (x ∷ xs) (suc i) le below = ap suc (mixed_long ss xs i (omega (arith, le)) (omega (arith, below)))

set_next : {X : Type 0} (ss xs : List X) (i : ℕ) (y d : X) → i < length ss → i < length xs → y ≡ get_or ss i d → slice_set (take i ss ++ drop i xs) i y ≡ take (suc i) ss ++ drop (suc i) xs
set_next [] xs i y d le below is = absurd (omega (arith, le))
set_next (s ∷ ss) [] i y d le below is = absurd (omega (arith, below))
set_next (s ∷ ss) (x ∷ xs) zero y d le below is = ap (λ c. c ∷ xs) is
set_next (s ∷ ss) (x ∷ xs) (suc i) y d le below is = ap (λ cs. s ∷ cs) (set_next ss xs i y d (omega (arith, le)) (omega (arith, below)) is)

pub put_next : {X : Type 0} (ss xs ys : List X) (i : ℕ) (y d : X) → ys ≡ take i ss ++ drop i xs → i < length ss → i < length xs → y ≡ get_or ss i d → slice_set ys i y ≡ take (i + 1) ss ++ drop (i + 1) xs
put_next ss xs ys i y d mixed le below is =
    let one : suc i ≡ i + 1 = omega arith in
    subst (λ n. slice_set ys i y ≡ take n ss ++ drop n xs) one (rw mixed (set_next ss xs i y d le below is))

pub all_put : {X : Type 0} (ss xs : List X) (i : ℕ) → i ≡ length ss → i ≡ length xs → take i ss ++ drop i xs ≡ ss
all_put [] [] zero e f = refl
all_put [] (x ∷ xs) zero e f = absurd (omega (arith, f))
all_put [] xs (suc i) e f = absurd (omega (arith, e))
all_put (s ∷ ss) xs zero e f = absurd (omega (arith, e))
all_put (s ∷ ss) [] (suc i) e f = absurd (omega (arith, f))
all_put (s ∷ ss) (x ∷ xs) (suc i) e f = ap (λ cs. s ∷ cs) (all_put ss xs i (omega (arith, e)) (omega (arith, f)))

-- copies of one item
pub copies_at : {X : Type 0} (n i : ℕ) (z : X) → get_or (replicate n z) i z ≡ z
copies_at zero i z = refl
copies_at (suc n) zero z = refl
copies_at (suc n) (suc i) z = copies_at n i z

pub copies_long : {X : Type 0} (n : ℕ) (z : X) → length (replicate n z) ≡ n
copies_long zero z = refl
copies_long (suc n) z = ap suc (copies_long n z)
