-- Sums, least values and first places, over the numbers below n.
use Rattle.std.specs.Prelude.{nat_lt, ◌==◌, if◌then◌else◌, ◌&&◌, not, int_lt}
use Rattle.std.proofs.Common.{◌≡◌, ◌≢◌, ℕ, zero, suc, Bool, true, false, ◌≤◌, ◌<◌, refl, sym, ap, ◌∙◌, arith, Option, Some, None, ◌+◌, ◌*◌, add-one, min}
use Rattle.std.proofs.Math.IntN.{pos-*ℤ-pos}
use Rattle.std.proofs.Math.Nat.{mul-le-mul_left}
use Rattle.std.proofs.lemmas.Bool.{eqb-true, eq-eqb, ltb-true}
use Rattle.std.proofs.lemmas.Bool.Decides.{nat_tests}
use Rattle.std.proofs.lemmas.Int.{ints}
use lib.IntN.{ℤ, pos, negsuc, ◌*ℤ◌, ◌+ℤ◌}
use lib.Signed.{◌≤ℤ◌, ◌<ℤ◌}
use Rattle.chisel_table.specs.Sums.{sum_to, int_sum_to, least_to, first_to}

-- ---- tests

-- cases on a test
pub by_test : {P : Type 0} (b : Bool) → (b ≡ true → P) → (b ≡ false → P) → P
by_test true f g = f refl
by_test false f g = g refl

pub both : (a b : Bool) → (a && b) ≡ true → (a ≡ true) × (b ≡ true)
both true b h = (refl, h)
both false b h = cc

pub not_true : (b : Bool) → not b ≡ true → b ≡ false
not_true true h = cc
not_true false h = refl

pub not_false : (b : Bool) → b ≡ false → not b ≡ true
not_false b h = rw h refl

pub differ : (a b : ℕ) → (a == b) ≡ false → a ≢ b
differ a b h e = absurd (let w = eq-eqb a b e in cc)

pub int_below : (a b : ℤ) → int_lt a b ≡ true → a <ℤ b
int_below a b h = grind (arith, ints)

pub int_above : (a b : ℤ) → int_lt a b ≡ false → b ≤ℤ a
int_above a b h = grind (arith, ints)

pub is_int_below : (a b : ℤ) → a <ℤ b → int_lt a b ≡ true
is_int_below a b h = grind (arith, ints)

-- ---- sums

pub sum_none : (f : ℕ → ℕ) → sum_to 0 f ≡ 0
unfolding sum_to
sum_none f = refl

pub sum_more : (n : ℕ) (f : ℕ → ℕ) → sum_to (n + 1) f ≡ sum_to n f + f n
unfolding sum_to
sum_more n f = rw add-one refl

-- a sum of larger numbers is larger
pub sum_mono : (n : ℕ) (f g : ℕ → ℕ) → ((k : ℕ) → k < n → f k ≤ g k) → sum_to n f ≤ sum_to n g
unfolding sum_to
sum_mono zero f g h = omega arith
sum_mono (suc n) f g h =
    let a = sum_mono n f g (λ k l. h k (omega arith)) in
    let b = h n (omega arith) in
    omega arith

pub sum_same : (n : ℕ) (f g : ℕ → ℕ) → ((k : ℕ) → k < n → f k ≡ g k) → sum_to n f ≡ sum_to n g
sum_same n f g h =
    let a = sum_mono n f g (λ k l. let e = h k l in omega arith) in
    let b = sum_mono n g f (λ k l. let e = h k l in omega arith) in
    omega arith

pub sum_add : (n : ℕ) (f g : ℕ → ℕ) → sum_to n (λ k. f k + g k) ≡ sum_to n f + sum_to n g
unfolding sum_to
sum_add zero f g = refl
sum_add (suc n) f g = let a = sum_add n f g in omega arith

pub sum_scale : (n m : ℕ) (f : ℕ → ℕ) → sum_to n (λ k. m * f k) ≡ m * sum_to n f
unfolding sum_to
sum_scale zero m f = omega arith
sum_scale (suc n) m f = let a = sum_scale n m f in omega arith

sum_zero : (n : ℕ) → sum_to n (λ k. 0) ≡ 0
unfolding sum_to
sum_zero zero = refl
sum_zero (suc n) = let a = sum_zero n in omega arith

-- sums are taken in either order
pub sum_swap : (n m : ℕ) (f : ℕ → ℕ → ℕ) →
    sum_to n (λ d. sum_to m (λ i. f i d)) ≡ sum_to m (λ i. sum_to n (λ d. f i d))
unfolding sum_to
sum_swap zero m f = sym (sum_zero m)
sum_swap (suc n) m f =
    let a = sum_swap n m f in
    let b = sum_add m (λ i. sum_to n (λ d. f i d)) (λ i. f i n) in
    omega arith

-- two sums that differ at one place
pub sum_change : (n : ℕ) (f g : ℕ → ℕ) (d : ℕ) → d < n → ((k : ℕ) → k ≢ d → f k ≡ g k) → sum_to n f + g d ≡ sum_to n g + f d
unfolding sum_to
sum_change zero f g d l h = absurd (omega arith)
sum_change (suc n) f g d l h = by_test (d == n)
    (λ e. let q = eqb-true d n e in let a = sum_same n f g (λ k m. h k (omega arith)) in rw q (omega arith))
    (λ e. let ne = differ d n e in
    let m : d < n = let z : d ≢ n = ne in omega arith in
    let a = sum_change n f g d m h in
    let b = h n (λ z. ne (sym z)) in omega arith)

-- a part of a sum is at most the sum
pub sum_part : (m n : ℕ) (f : ℕ → ℕ) → m ≤ n → sum_to m f ≤ sum_to n f
unfolding sum_to
sum_part m zero f h = let e : m ≡ 0 = omega arith in rw e (omega arith)
sum_part m (suc n) f h = by_test (m == suc n)
    (λ e. rw (eqb-true m (suc n) e) (omega arith))
    (λ e. let ne = differ m (suc n) e in
    let l : m ≤ n = let z : m ≢ suc n = ne in omega arith in
    let a = sum_part m n f l in omega arith)

-- a sum of n numbers up to b is at most n times b
pub sum_bound : (n b : ℕ) (f : ℕ → ℕ) → ((k : ℕ) → k < n → f k ≤ b) → sum_to n f ≤ n * b
unfolding sum_to
sum_bound zero b f h = omega arith
sum_bound (suc n) b f h =
    let a = sum_bound n b f (λ k l. h k (omega arith)) in
    let c = h n (omega arith) in
    omega arith

-- ---- sums of integers

pub int_sum_none : (f : ℕ → ℤ) → int_sum_to 0 f ≡ pos 0
unfolding int_sum_to
int_sum_none f = refl

pub int_sum_more : (n : ℕ) (f : ℕ → ℤ) → int_sum_to (n + 1) f ≡ int_sum_to n f +ℤ f n
unfolding int_sum_to
int_sum_more n f = rw add-one refl

-- a sum of larger integers is larger
pub int_sum_above : (n : ℕ) (f : ℕ → ℕ) (g : ℕ → ℤ) → ((k : ℕ) → k < n → pos (f k) ≤ℤ g k) → pos (sum_to n f) ≤ℤ int_sum_to n g
unfolding sum_to int_sum_to
int_sum_above zero f g h = omega (arith, ints)
int_sum_above (suc n) f g h =
    let a = int_sum_above n f g (λ k l. h k (omega arith)) in
    let b = h n (omega arith) in
    omega (arith, ints)

-- a multiple of a larger integer is larger
pub scaled_above : (l s : ℕ) (b : ℤ) → pos s ≤ℤ b → pos (l * s) ≤ℤ (pos l *ℤ b)
scaled_above l s (pos b) h =
    let a = mul-le-mul_left {m = s} {n = b} l (omega (arith, ints)) in
    rw (pos-*ℤ-pos l b) (omega (arith, ints))
scaled_above l s (negsuc b) h = absurd (omega (arith, ints))

-- ---- least values

-- the least of one value, and of one more
pub least_one : (f : ℕ → ℕ) → least_to 1 f ≡ f 0
unfolding least_to
least_one f = refl

pub least_more : (n : ℕ) (f : ℕ → ℕ) → 1 ≤ n → least_to (n + 1) f ≡ min (least_to n f) (f n)
unfolding least_to
least_more zero f h = absurd (omega arith)
least_more (suc n) f h = let e : suc n + 1 ≡ suc (suc n) = omega arith in ap (λ m. least_to m f) e

-- the least value is at most each value
pub least_below : (n : ℕ) (f : ℕ → ℕ) (k : ℕ) → k < n → least_to n f ≤ f k
unfolding least_to
least_below zero f k h = absurd (omega arith)
least_below (suc zero) f k h = let e : k ≡ 0 = omega arith in rw e (omega arith)
least_below (suc (suc n)) f k h =
    by_test (k == suc n)
    (λ e. rw (eqb-true _ _ e) (omega arith))
    (λ e. let a = least_below (suc n) f k in grind arith)

-- ---- first places

pub first_found : (n : ℕ) (f : ℕ → Bool) (k : ℕ) → first_to n f ≡ Some k → (k < n) × (f k ≡ true)
unfolding first_to
first_found zero f k h = cc
first_found (suc n) f k h = go (first_to n f) refl h (first_found n f k)
  where
    go : (r : Option ℕ) → first_to n f ≡ r → (elim r [ Some j ↦ Some j | None ↦ if f n then Some n else None ]) ≡ Some k →
        (first_to n f ≡ Some k → (k < n) × (f k ≡ true)) → (k < suc n) × (f k ≡ true)
    go (Some j) e g ih = let a = ih (e ∙ g) in (omega arith, a.1)
    go None e g ih = by_test (f n)
        (λ b. let q : n ≡ k = let w = rw b at g in cc in (omega arith, rw (← q) b))
        (λ b. absurd (let w = rw b at g in cc))

-- where none is found, f holds nowhere below n
pub first_none : (n : ℕ) (f : ℕ → Bool) → first_to n f ≡ None → (k : ℕ) → k < n → f k ≡ false
unfolding first_to
first_none zero f h k l = absurd (omega arith)
first_none (suc n) f h k l = go (first_to n f) refl h (first_none n f)
  where
    go : (r : Option ℕ) → first_to n f ≡ r → ◌≡◌ {A = Option ℕ} (elim r [ Some j ↦ Some j | None ↦ if f n then Some n else None ]) None →
        (first_to n f ≡ None → (k : ℕ) → k < n → f k ≡ false) → f k ≡ false
    go (Some j) e g ih = absurd (cc)
    go None e g ih = by_test (f n)
        (λ b. absurd (let w = rw b at g in cc))
        (λ b. by_test (k == n) (λ q. rw (eqb-true _ _ q) b)
        (λ q. let ne : k ≢ n = λ z. absurd (let w = eq-eqb k n z in cc) in ih e k (omega arith)))

-- nothing before what is found holds
first_least : (n : ℕ) (f : ℕ → Bool) (j : ℕ) → first_to n f ≡ Some j → (k : ℕ) → k < j → f k ≡ false
unfolding first_to
first_least zero f j h k l = absurd (cc)
first_least (suc n) f j h k l = go (first_to n f) refl h (first_least n f j)
  where
    go : (r : Option ℕ) → first_to n f ≡ r → ◌≡◌ {A = Option ℕ} (elim r [ Some i ↦ Some i | None ↦ if f n then Some n else None ]) (Some j) →
        (first_to n f ≡ Some j → (k : ℕ) → k < j → f k ≡ false) → f k ≡ false
    go (Some i) e g ih = ih (e ∙ g) k l
    go None e g ih = by_test (f n)
        (λ b. let q : n ≡ j = let w = rw b at g in cc in first_none n f e k (omega arith))
        (λ b. absurd (let w = rw b at g in cc))

-- f holds at i and nowhere before
pub first_is : (n : ℕ) (f : ℕ → Bool) (i : ℕ) → i < n → f i ≡ true → ((k : ℕ) → k < i → f k ≡ false) → first_to n f ≡ Some i
first_is n f i l h before = go (first_to n f) refl
  where
    go : (r : Option ℕ) → first_to n f ≡ r → first_to n f ≡ Some i
    go (Some j) e = let a = first_found n f j e in e ∙ ap Some (same j a.0 a.1 e)
      where
        same : (j : ℕ) → j < n → f j ≡ true → first_to n f ≡ Some j → j ≡ i
        same j m w e' = by_test (nat_lt j i)
            (λ x. absurd (let y = before j (ltb-true j i x) in cc))
            (λ x. by_test (nat_lt i j)
            (λ y. absurd (let z = first_least n f j e' i (ltb-true i j y) in cc))
            (λ y. grind (arith, nat_tests)))
    go None e = absurd (let a = first_none n f e i l in cc)

-- f holds nowhere
pub first_nowhere : (n : ℕ) (f : ℕ → Bool) → ((k : ℕ) → k < n → f k ≡ false) → first_to n f ≡ None
first_nowhere n f h = go (first_to n f) refl
  where
    go : (r : Option ℕ) → first_to n f ≡ r → first_to n f ≡ None
    go (Some j) e = absurd (let a = first_found n f j e in let b = h j a.0 in let c = a.1 in cc)
    go None e = e
