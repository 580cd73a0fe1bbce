-- What is rounded up stays above the exact product.
use Rattle.std.proofs.Common.{◌≡◌, ℕ, zero, suc, ◌+◌, ◌*◌, ◌/◌, ◌%◌, ◌^◌, ◌<◌, ◌≤◌, List, [], ◌∷◌, length, ap, subst, ◌∙◌, arith, mul-le-mul, le_of_mul-le-mul_right, div-add-mod', mod-lt}
use Rattle.std.specs.Prelude.{sum}
use Rattle.std.specs.List.{fold, zip}
use Rattle.std.proofs.lemmas.Grind.{div_ceil_times}
use Rattle.std.proofs.lemmas.Nat.{pow-add}
use Rattle.std.proofs.lemmas.List.Sums.{sum_by-cons}
use native.Mathlib.Nat.{pow-zero, pow-suc}
use Rattle.rely_num.specs.Bounds.{S}
use Rattle.rely_num.specs.Products.{product}
use Rattle.rely_num.specs.Rounded.{mul_hi, squared, power, hi_pow}

-- one is not 0
some : 0 < S
some = omega arith

-- the factor a of S is above the exact x of S ^ i
abbrev pub Over : ℕ → ℕ → ℕ → Type 0
Over a x i = x * S ≤ a * S ^ i

-- the product of two that are above, by any divisor
over_by : (a b c s A B x y : ℕ) → a * b ≤ c * s → x * s ≤ a * A → y * s ≤ b * B → 0 < s → (x * y) * s ≤ c * (A * B)
over_by a b c s A B x y up h j more =
    let first : (a * b) * (A * B) ≤ (c * s) * (A * B) = mul-le-mul up (omega arith) in
    let second : (x * s) * (y * s) ≤ (a * A) * (b * B) = mul-le-mul h j in
    let both : ((x * y) * s) * s ≤ (c * (A * B)) * s = omega arith in
    le_of_mul-le-mul_right both more

-- the product rounded up is above the product
pub over_mul : (a b x y i j : ℕ) → Over a x i → Over b y j → Over (mul_hi a b) (x * y) (i + j)
over_mul a b x y i j h k = rw (pow-add S i j) (over_by a b (mul_hi a b) S (S ^ i) (S ^ j) x y ((div_ceil_times (a * b) S some).0) h k some)

-- no power
over_none : (p : ℕ) → Over S (p ^ 0) 0
over_none p = rw (pow-zero p) (omega arith)

-- of any number
pow_one : (p : ℕ) → p ^ 1 ≡ p
pow_one p = pow-suc p 0 ∙ ap (λ n. n * p) (pow-zero p) ∙ (omega arith)

-- the first power
over_one : (p : ℕ) → Over p (p ^ 1) 1
over_one p = rw (pow_one p) (omega arith)

-- a square, times the number where the exponent is odd
over_square : (p m r : ℕ) (h : ℕ) → r < 2 → Over h (p ^ m) m → Over (squared mul_hi p r h) (p ^ (m + m + r)) (m + m + r)
over_square p m zero h below k =
    let same : m + m + 0 ≡ m + m = omega arith in
    rw (same, pow-add p m m) (over_mul h h (p ^ m) (p ^ m) m m k k)
over_square p m (suc zero) h below k =
    rw (pow-add p (m + m) 1, pow-add p m m) (over_mul (mul_hi h h) p (p ^ m * p ^ m) (p ^ 1) (m + m) 1 (over_mul h h (p ^ m) (p ^ m) m m k k) (over_one p))
over_square p m (suc (suc r)) h below k = absurd (omega (arith, below))

-- a power by halving
pub over_power : (depth p n : ℕ) → n ≤ depth → Over (power mul_hi depth p n) (p ^ n) n
unfolding power
over_power zero p zero below = over_none p
over_power zero p (suc n) below = absurd (omega (arith, below))
over_power (suc depth) p zero below = over_none p
over_power (suc depth) p (suc zero) below = over_one p
over_power (suc depth) p (suc (suc n)) below =
    let m : ℕ = suc (suc n) / 2 in
    let r : ℕ = n % 2 in
    let whole : m * 2 + suc (suc n) % 2 ≡ suc (suc n) = div-add-mod' (suc (suc n)) 2 in
    let small_one : suc (suc n) % 2 < 2 = mod-lt (suc (suc n)) (omega arith) in
    let before : n / 2 * 2 + r ≡ n = div-add-mod' n 2 in
    let least : r < 2 = mod-lt n (omega arith) in
    let twice : m + m + r ≡ suc (suc n) = omega arith in
    let small : m ≤ depth = omega arith in
    subst (λ i. Over (squared mul_hi p r (power mul_hi depth p m)) (p ^ i) i) twice (over_square p m r (power mul_hi depth p m) least (over_power depth p m small))

-- the power rounded up
pub over_hi : (p n : ℕ) → Over (hi_pow p n) (p ^ n) n
unfolding hi_pow
over_hi p n = over_power n p n (omega arith)

-- a product that goes on from another
over_from : (rs ns : List ℕ) (a x i : ℕ) → length rs ≡ length ns → Over a x i
    → Over (fold (λ b q. mul_hi b (hi_pow q.0 q.1)) a (zip rs ns)) (x * product rs ns) (i + sum ns)
over_from [] [] a x i long h = let same : x * 1 ≡ x = omega arith in let still : i + 0 ≡ i = omega arith in rw (same, still) h
over_from [] (n ∷ ns) a x i long h = absurd (omega (arith, long))
over_from (r ∷ rs) [] a x i long h = absurd (omega (arith, long))
over_from (r ∷ rs) (n ∷ ns) a x i long h =
    let rest : Over (fold (λ b q. mul_hi b (hi_pow q.0 q.1)) (mul_hi a (hi_pow r n)) (zip rs ns)) ((x * r ^ n) * product rs ns) ((i + n) + sum ns) =
    over_from rs ns (mul_hi a (hi_pow r n)) (x * r ^ n) (i + n) (omega (arith, long)) (over_mul a (hi_pow r n) x (r ^ n) i n h (over_hi r n)) in
    let parts : (x * r ^ n) * product rs ns ≡ x * (r ^ n * product rs ns) = omega arith in
    let counts : (i + n) + sum ns ≡ i + sum (n ∷ ns) = omega (arith, sum_by-cons (λ c. c) n ns) in
    subst (λ j. Over (fold (λ b q. mul_hi b (hi_pow q.0 q.1)) (mul_hi a (hi_pow r n)) (zip rs ns)) (x * (r ^ n * product rs ns)) j) counts
    (subst (λ y. Over (fold (λ b q. mul_hi b (hi_pow q.0 q.1)) (mul_hi a (hi_pow r n)) (zip rs ns)) y ((i + n) + sum ns)) parts rest)

-- the product of the powers rounded up, label by label, stays above the exact product
pub over_product : (rs ns : List ℕ) → length rs ≡ length ns → product rs ns * S ≤ fold (λ b q. mul_hi b (hi_pow q.0 q.1)) S (zip rs ns) * S ^ sum ns
over_product rs ns long =
    let one : 1 * product rs ns ≡ product rs ns = omega arith in
    let none : 0 + sum ns ≡ sum ns = omega arith in
    let start : Over S 1 0 = omega arith in
    subst (λ i. Over (fold (λ b q. mul_hi b (hi_pow q.0 q.1)) S (zip rs ns)) (product rs ns) i) none
    (subst (λ y. Over (fold (λ b q. mul_hi b (hi_pow q.0 q.1)) S (zip rs ns)) y (0 + sum ns)) one (over_from rs ns S 1 0 long start))
