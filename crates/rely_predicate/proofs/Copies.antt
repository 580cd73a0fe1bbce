-- Lists that are overwritten place by place.
use Rattle.std.proofs.Common.{◌≡◌, ℕ, zero, suc, ◌+◌, ◌<◌, List, [], ◌∷◌, ◌++◌, length, get_or, set, take, drop, refl, ap, arith, add-one}

over_next : {X : Type 0} (xs ys : List X) (i : ℕ) (d : X) → i < length xs → i < length ys
    → set (take i xs ++ drop i ys) i (get_or xs i d) ≡ take (suc i) xs ++ drop (suc i) ys
over_next [] ys i d h l = absurd (omega (arith, h))
over_next (x ∷ xs) [] i d h l = absurd (omega (arith, l))
over_next (x ∷ xs) (y ∷ ys) zero d h l = refl
over_next (x ∷ xs) (y ∷ ys) (suc i) d h l = ap (λ zs. x ∷ zs) (over_next xs ys i d (omega (arith, h)) (omega (arith, l)))

-- one place more
pub over_step : {X : Type 0} (xs ys : List X) (i : ℕ) (d : X) → i < length xs → i < length ys
    → set (take i xs ++ drop i ys) i (get_or xs i d) ≡ take (i + 1) xs ++ drop (i + 1) ys
over_step xs ys i d h l = rw add-one (over_next xs ys i d h l)
