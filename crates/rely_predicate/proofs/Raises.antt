-- Conjuncts as code raises them, count by count.
use Rattle.std.proofs.Common.{◌≡◌, ℕ, zero, suc, ◌+◌, ◌*◌, ◌^◌, ◌<◌, List, [], ◌∷◌, ◌++◌, map, length, get_or, set, take, drop, refl, ap, subst, arith, add-one}
use Rattle.std.specs.List.{All}
use Rattle.rely_num.specs.declared.conj.Conj.{Conj}
use Rattle.rely_predicate.specs.Shift.{plus, times}

-- nothing added
pub plus_nil : (ns : List ℕ) → plus [] ns ≡ ns
plus_nil [] = refl
plus_nil (n ∷ ns) = refl

plus_next : (n : ℕ) (by ns : List ℕ) (i : ℕ) → i < length by → i < length ns
    → plus (times n (take (suc i) by)) ns ≡ set (plus (times n (take i by)) ns) i (get_or (plus (times n (take i by)) ns) i 0 + n * get_or by i 0)
plus_next n [] ns i h k = absurd (omega (arith, h))
plus_next n (b ∷ by) [] i h k = absurd (omega (arith, k))
plus_next n (b ∷ by) (m ∷ ms) zero h k = let e : n * b + m ≡ m + n * b = omega arith in λ i. e i ∷ plus_nil ms i
plus_next n (b ∷ by) (m ∷ ms) (suc i) h k = ap (λ ys. (n * b + m) ∷ ys) (plus_next n by ms i (omega (arith, h)) (omega (arith, k)))

-- one count more is raised
pub plus_step : (n : ℕ) (by ns : List ℕ) (i : ℕ) → i < length by → i < length ns
    → plus (times n (take (i + 1) by)) ns ≡ set (plus (times n (take i by)) ns) i (get_or (plus (times n (take i by)) ns) i 0 + n * get_or by i 0)
plus_step n by ns i h k = rw add-one (plus_next n by ns i h k)

-- a count when all are raised
pub plus_at : (n : ℕ) (by ns : List ℕ) (i d : ℕ) → i < length by → i < length ns → get_or (plus (times n by) ns) i d ≡ n * get_or by i 0 + get_or ns i 0
plus_at n [] ns i d h k = absurd (omega (arith, h))
plus_at n (b ∷ by) [] i d h k = absurd (omega (arith, k))
plus_at n (b ∷ by) (m ∷ ms) zero d h k = refl
plus_at n (b ∷ by) (m ∷ ms) (suc i) d h k = plus_at n by ms i d (omega (arith, h)) (omega (arith, k))

-- and one that isn't yet
pub plus_beyond : (n : ℕ) (by ns : List ℕ) (i d : ℕ) → i < length by → i < length ns → get_or (plus (times n (take i by)) ns) i d ≡ get_or ns i 0
plus_beyond n [] ns i d h k = absurd (omega (arith, h))
plus_beyond n (b ∷ by) [] i d h k = absurd (omega (arith, k))
plus_beyond n (b ∷ by) (m ∷ ms) zero d h k = refl
plus_beyond n (b ∷ by) (m ∷ ms) (suc i) d h k = plus_beyond n by ms i d (omega (arith, h)) (omega (arith, k))

pub length_plus : (vs ns : List ℕ) → length (plus vs ns) ≡ length ns
length_plus vs [] = refl
length_plus [] (n ∷ ns) = refl
length_plus (v ∷ vs) (n ∷ ns) = ap suc (length_plus vs ns)

-- so each sum stays below the bound
pub sum_below : (n : ℕ) (by ns : List ℕ) (i : ℕ) → i < length by → i < length ns → All (λ k. k < 2 ^ 36) (plus (times n by) ns) → n * get_or by i 0 + get_or ns i 0 < 2 ^ 36
sum_below n by ns i h k below = subst (λ (m : ℕ). m < 2 ^ 36) (plus_at n by ns i 0 h k) (below i 0 (let e = length_plus (times n by) ns in omega (arith, k, e)))

-- ---- the list

-- the next conjunct
pub rest_at : (f : Conj → Conj) (xs : List Conj) (i : ℕ) (d : Conj) → i < length xs → get_or (map f (take i xs) ++ drop i xs) i d ≡ get_or xs i d
rest_at f [] i d h = absurd (omega (arith, h))
rest_at f (x ∷ xs) zero d h = refl
rest_at f (x ∷ xs) (suc i) d h = rest_at f xs i d (omega (arith, h))

map_next : (f : Conj → Conj) (xs : List Conj) (i : ℕ) (d : Conj) → i < length xs
    → map f (take (suc i) xs) ++ drop (suc i) xs ≡ set (map f (take i xs) ++ drop i xs) i (f (get_or xs i d))
map_next f [] i d h = absurd (omega (arith, h))
map_next f (x ∷ xs) zero d h = refl
map_next f (x ∷ xs) (suc i) d h = ap (λ ys. f x ∷ ys) (map_next f xs i d (omega (arith, h)))

-- one conjunct more is mapped
pub map_step : (f : Conj → Conj) (xs : List Conj) (i : ℕ) (d : Conj) → i < length xs
    → map f (take (i + 1) xs) ++ drop (i + 1) xs ≡ set (map f (take i xs) ++ drop i xs) i (f (get_or xs i d))
map_step f xs i d h = rw add-one (map_next f xs i d h)

-- all of them
pub map_end : (f : Conj → Conj) (xs : List Conj) (i : ℕ) → length xs ≡ i → map f (take i xs) ++ drop i xs ≡ map f xs
map_end f [] zero h = refl
map_end f [] (suc i) h = refl
map_end f (x ∷ xs) zero h = absurd (omega (arith, h))
map_end f (x ∷ xs) (suc i) h = ap (λ ys. f x ∷ ys) (map_end f xs i (omega (arith, h)))
