-- Uses are no more than the steps.
use Rattle.std.proofs.Common.{◌≡◌, ℕ, zero, suc, ◌+◌, ◌<◌, ◌≤◌, List, [], ◌∷◌, length, map, get_or, sym, subst, arith}
use Rattle.std.specs.Prelude.{slice_set}
use Rattle.std.specs.List.{All}

-- in a row
pub bounded_row : (m n x : ℕ) (xs : List ℕ) (i : ℕ) → m ≤ n → x ≤ n → All (λ u. u ≤ m) xs → All (λ u. u ≤ n) (slice_set xs i x)
bounded_row m n x [] i le top h k d below = absurd (omega (arith, below))
bounded_row m n x (y ∷ ys) zero le top h zero d below = top
bounded_row m n x (y ∷ ys) zero le top h (suc k) d below = let a = h (suc k) d below in omega (arith, a, le)
bounded_row m n x (y ∷ ys) (suc i) le top h zero d below = let a = h zero d (omega arith) in omega (arith, a, le)
bounded_row m n x (y ∷ ys) (suc i) le top h (suc k) d below = bounded_row m n x ys i le top (λ j e b. h (suc j) e (omega (arith, b))) k d (omega (arith, below))

-- and in all rows
pub bounded_rows : (m n : ℕ) (row : List ℕ) (rows : List (List ℕ)) (f : ℕ) → m ≤ n → All (λ u. u ≤ n) row → All (All (λ u. u ≤ m)) rows → All (All (λ u. u ≤ n)) (slice_set rows f row)
bounded_rows m n row [] f le top h k d below = absurd (omega (arith, below))
bounded_rows m n row (r ∷ rs) zero le top h zero d below = top
bounded_rows m n row (r ∷ rs) zero le top h (suc k) d below = λ j e b. let a = h (suc k) d below j e b in omega (arith, a, le)
bounded_rows m n row (r ∷ rs) (suc f) le top h zero d below = λ j e b. let a = h zero d (omega arith) j e b in omega (arith, a, le)
bounded_rows m n row (r ∷ rs) (suc f) le top h (suc k) d below = bounded_rows m n row rs f le top (λ j e b. h (suc j) e (omega (arith, b))) k d (omega (arith, below))

-- a place in a row that is there
row_there : (rows : List (List ℕ)) (f i : ℕ) (d : List ℕ) → i < get_or (map length rows) f 0 → (f < length rows) × (i < length (get_or rows f d))
row_there [] f i d h = absurd (omega (arith, h))
row_there (r ∷ rs) zero i d h = (omega arith, h)
row_there (r ∷ rs) (suc f) i d h = let w = row_there rs f i d h in (omega (arith, w.0), w.1)

-- one more use, with one step more
pub take_bounded : (rows rows2 : List (List ℕ)) (m n f i : ℕ) (row row2 read row3 : List ℕ) → rows2 ≡ rows → n ≡ m + 1 → All (All (λ u. u ≤ m)) rows → i < get_or (map length rows) f 0
    → row ≡ get_or rows f row → read ≡ row → row2 ≡ get_or rows2 f row2 → row3 ≡ slice_set row2 i (get_or read i 0 + 1) → All (All (λ u. u ≤ n)) (slice_set rows2 f row3)
take_bounded rows rows2 m n f i row row2 read row3 same one h there is read_is is2 is3 =
    let at = row_there rows f i row there in
    let at2 = row_there rows f i row2 there in
    let le : m ≤ n = omega (arith, one) in
    let old : All (λ u. u ≤ m) row = subst (All (λ u. u ≤ m)) (sym is) (h f row at.0) in
    let old2 : All (λ u. u ≤ m) row2 = subst (All (λ u. u ≤ m)) (sym is2) (subst (λ (rs : List (List ℕ)). All (λ u. u ≤ m) (get_or rs f row2)) (sym same) (h f row2 at2.0)) in
    let below : i < length row = subst (λ (xs : List ℕ). i < length xs) (sym is) at.1 in
    let top : get_or read i 0 ≤ m = subst (λ (xs : List ℕ). get_or xs i 0 ≤ m) (sym read_is) (old i 0 below) in
    subst (λ (rs : List (List ℕ)). All (All (λ u. u ≤ n)) (slice_set rs f row3)) (sym same)
    (bounded_rows m n row3 rows f le (subst (All (λ u. u ≤ n)) (sym is3) (bounded_row m n (get_or read i 0 + 1) row2 i le (omega (arith, top, one)) old2)) h)
