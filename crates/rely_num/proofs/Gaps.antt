-- How far apart the two roundings are, and that neither passes one.
use Rattle.std.proofs.Common.{◌≡◌, ℕ, zero, suc, ◌+◌, ◌-◌, ◌*◌, ◌/◌, ◌%◌, ◌^◌, min, ◌<◌, ◌≤◌, List, [], ◌∷◌, length, arith, mul-le-mul, div-add-mod', mod-lt, div-mul-le_self}
use Rattle.std.specs.Prelude.{sum}
use Rattle.std.specs.List.{fold, zip, All, AllByRecursion}
use Rattle.std.specs.Int.{div_ceil}
use Rattle.std.proofs.lemmas.Grind.{div_ceil_times}
use Rattle.std.proofs.lemmas.List.Sums.{sum_by-cons}
use Rattle.std.proofs.lemmas.List.Elements.{recursion_from_All}
use Rattle.std.proofs.lemmas.Nat.{le-div}
use Rattle.std.proofs.Math.Nat.{mul-le-mul_left, mul-le-mul_right, lt_of_mul-lt-mul_right, le_of_mul-le-mul_right, one-le-pow}
use Rattle.rely_num.specs.Bounds.{S}
use Rattle.rely_num.proofs.RoundedDown.{under_lo, under_product}
use Rattle.rely_num.proofs.RoundedUp.{over_hi, over_product}
use Rattle.rely_num.proofs.Halving.{lo_pow_none, hi_pow_none}
use Rattle.rely_num.specs.Rounded.{mul_lo, mul_hi, squared, power, lo_pow, hi_pow}

-- one is not 0
some : 0 < S
some = omega arith

-- the least upper multiple is within any other, by any divisor
ceil_within : (x k s : ℕ) → 0 < s → x ≤ k * s → div_ceil x s ≤ k
ceil_within x k s more h =
    let above : div_ceil x s * s < x + s = (div_ceil_times x s more).1 in
    let under : div_ceil x s * s < suc k * s = omega arith in
    omega (arith, lt_of_mul-lt-mul_right s under)

-- a product rounded up is at most one
pub mul_hi_within : (a b : ℕ) → a ≤ S → b ≤ S → mul_hi a b ≤ S
mul_hi_within a b h k = ceil_within (a * b) S S some (mul-le-mul h k)

-- a product rounded down is at most one
pub mul_lo_within : (a b : ℕ) → a ≤ S → b ≤ S → mul_lo a b ≤ S
mul_lo_within a b h k =
    let square : a * b ≤ S * S = mul-le-mul h k in
    let down : mul_lo a b * S ≤ a * b = div-mul-le_self (a * b) S in
    omega arith

-- a power of what is at most one, by a product that keeps to that
power_within : (mul : ℕ → ℕ → ℕ) → ((a b : ℕ) → a ≤ S → b ≤ S → mul a b ≤ S) → (depth p n : ℕ) → p ≤ S → power mul depth p n ≤ S
unfolding power
power_within mul keeps zero p n h = omega arith
power_within mul keeps (suc depth) p zero h = omega arith
power_within mul keeps (suc depth) p (suc zero) h = h
power_within mul keeps (suc depth) p (suc (suc n)) h = go (n % 2) (power_within mul keeps depth p (suc (suc n) / 2) h)
  where
    go : (r : ℕ) → power mul depth p (suc (suc n) / 2) ≤ S → squared mul p r (power mul depth p (suc (suc n) / 2)) ≤ S
    go zero k = keeps (power mul depth p (suc (suc n) / 2)) (power mul depth p (suc (suc n) / 2)) k k
    go (suc r) k =
        keeps (mul (power mul depth p (suc (suc n) / 2)) (power mul depth p (suc (suc n) / 2))) p
        (keeps (power mul depth p (suc (suc n) / 2)) (power mul depth p (suc (suc n) / 2)) k k) h

-- a power rounded down is at most one
pub lo_pow_within : (p n : ℕ) → p ≤ S → lo_pow p n ≤ S
unfolding lo_pow
lo_pow_within p n h = power_within mul_lo mul_lo_within n p n h

-- a power rounded up is at most one
pub hi_pow_within : (p n : ℕ) → p ≤ S → hi_pow p n ≤ S
unfolding hi_pow
hi_pow_within p n h = power_within mul_hi mul_hi_within n p n h

-- the quotients of two products whose factors are i and j apart, by any divisor
quotients_apart : (a b c d i j s : ℕ) → 0 < s → c ≤ a + i → d ≤ b + j → b ≤ s → c ≤ s → div_ceil (c * d) s ≤ a * b / s + i + j + 1
quotients_apart a b c d i j s more near close low high =
    let first : c * d ≤ c * (b + j) = mul-le-mul_left c close in
    let second : c * b ≤ (a + i) * b = mul-le-mul_right b near in
    let third : c * j ≤ s * j = mul-le-mul_right j high in
    let fourth : i * b ≤ i * s = mul-le-mul_left i low in
    let whole : a * b / s * s + a * b % s ≡ a * b = div-add-mod' (a * b) s in
    let rest : a * b % s < s = mod-lt (a * b) more in
    ceil_within (c * d) (a * b / s + i + j + 1) s more (omega arith)

-- one product adds one to the gaps of its factors
pub mul_gap : (a b c d i j : ℕ) → c ≤ a + i → d ≤ b + j → b ≤ S → c ≤ S → mul_hi c d ≤ mul_lo a b + i + j + 1
mul_gap a b c d i j near close low high = quotients_apart a b c d i j S some near close low high

-- a square, times the number where the exponent is odd
square_gap : (p m l h r : ℕ) → p ≤ S → l ≤ S → h ≤ S → 0 < m → h ≤ l + 2 * (m - 1) → squared mul_hi p r h ≤ squared mul_lo p r l + 2 * (m + m + min 1 r - 1)
square_gap p m l h zero one low high more gap = omega (arith, mul_gap l l h h (2 * (m - 1)) (2 * (m - 1)) gap gap low high)
square_gap p m l h (suc r) one low high more gap =
    let whole : mul_hi h h ≤ mul_lo l l + (2 * (m - 1) + 2 * (m - 1) + 1) = omega (arith, mul_gap l l h h (2 * (m - 1)) (2 * (m - 1)) gap gap low high) in
    let same : p ≤ p + 0 = omega arith in
    omega (arith, mul_gap (mul_lo l l) p (mul_hi h h) p (2 * (m - 1) + 2 * (m - 1) + 1) 0 whole same one (mul_hi_within h h high high))

-- a power by halving
power_gap : (depth p n : ℕ) → p ≤ S → n ≤ depth → 0 < n → power mul_hi depth p n ≤ power mul_lo depth p n + 2 * (n - 1)
unfolding power
power_gap depth p zero one below more = absurd (omega (arith, more))
power_gap zero p (suc n) one below more = absurd (omega (arith, below))
power_gap (suc depth) p (suc zero) one below more = omega arith
power_gap (suc depth) p (suc (suc n)) one below more =
    let m : ℕ = suc (suc n) / 2 in
    let twice : m + m + n % 2 ≡ suc (suc n) = omega arith in
    let parity : min 1 (n % 2) ≡ n % 2 = omega arith in
    let half : power mul_hi depth p m ≤ power mul_lo depth p m + 2 * (m - 1) = power_gap depth p m one (omega arith) (omega arith) in
    omega (arith, square_gap p m (power mul_lo depth p m) (power mul_hi depth p m) (n % 2) one (power_within mul_lo mul_lo_within depth p m one) (power_within mul_hi mul_hi_within depth p m one) (omega arith) half)

-- a power's gap
pub pow_gap : (p n : ℕ) → p ≤ S → 0 < n → hi_pow p n ≤ lo_pow p n + 2 * (n - 1)
unfolding lo_pow hi_pow
pow_gap p n one more = power_gap n p n one (omega arith) more

-- one factor adds at most twice its exponent
factor_gap : (a c r n k : ℕ) → r ≤ S → a ≤ S → c ≤ S → c ≤ a + k → mul_hi c (hi_pow r n) ≤ mul_lo a (lo_pow r n) + (k + 2 * n)
factor_gap a c r zero k one low high near =
    let up : mul_hi c S ≤ c = ceil_within (c * S) c S some (omega arith) in
    let down : a ≤ mul_lo a S = le-div a (a * S) S some (omega arith) in
    rw (lo_pow_none r, hi_pow_none r) (omega arith)
factor_gap a c r (suc n) k one low high near =
    let apart : hi_pow r (suc n) ≤ lo_pow r (suc n) + 2 * n = omega (arith, pow_gap r (suc n) one (omega arith)) in
    omega (arith, mul_gap a (lo_pow r (suc n)) c (hi_pow r (suc n)) k (2 * n) near apart (lo_pow_within r (suc n) one) high)

-- products that go on from two others
gap_from : (rs ns : List ℕ) (a c k : ℕ) → length rs ≡ length ns → AllByRecursion (λ r. r ≤ S) rs → a ≤ S → c ≤ S → c ≤ a + k
    → fold (λ b q. mul_hi b (hi_pow q.0 q.1)) c (zip rs ns) ≤ fold (λ b q. mul_lo b (lo_pow q.0 q.1)) a (zip rs ns) + (k + 2 * sum ns)
gap_from [] [] a c k long ones low high near = omega arith
gap_from [] (n ∷ ns) a c k long ones low high near = absurd (omega (arith, long))
gap_from (r ∷ rs) [] a c k long ones low high near = absurd (omega (arith, long))
gap_from (r ∷ rs) (n ∷ ns) a c k long (one, ones) low high near =
    omega (
      arith,
      sum_by-cons (λ i. i) n ns,
      gap_from rs ns (mul_lo a (lo_pow r n)) (mul_hi c (hi_pow r n)) (k + 2 * n) (omega (arith, long)) ones
          (mul_lo_within a (lo_pow r n) low (lo_pow_within r n one)) (mul_hi_within c (hi_pow r n) high (hi_pow_within r n one)) (factor_gap a c r n k one low high near),
    )

-- the two products of the powers, label by label, are at most twice the sum of the exponents apart
pub gap_product : (rs ns : List ℕ) → length rs ≡ length ns → All (λ r. r ≤ S) rs
    → fold (λ b q. mul_hi b (hi_pow q.0 q.1)) S (zip rs ns) ≤ fold (λ b q. mul_lo b (lo_pow q.0 q.1)) S (zip rs ns) + 2 * sum ns
gap_product rs ns long ones = omega (arith, gap_from rs ns S S 0 long (recursion_from_All (λ r. r ≤ S) rs ones) (omega arith) (omega arith) (omega arith))

-- the product rounded down is at most the product rounded up
pub ordered_products : (rs ns : List ℕ) → length rs ≡ length ns
    → fold (λ b q. mul_lo b (lo_pow q.0 q.1)) S (zip rs ns) ≤ fold (λ b q. mul_hi b (hi_pow q.0 q.1)) S (zip rs ns)
ordered_products rs ns long =
    let scaled : fold (λ b q. mul_lo b (lo_pow q.0 q.1)) S (zip rs ns) * S ^ sum ns ≤ fold (λ b q. mul_hi b (hi_pow q.0 q.1)) S (zip rs ns) * S ^ sum ns =
    omega (arith, under_product rs ns long, over_product rs ns long) in
    le_of_mul-le-mul_right scaled (one-le-pow (sum ns) S some)

-- a power rounded down is at most the power rounded up
pub ordered_powers : (p n : ℕ) → lo_pow p n ≤ hi_pow p n
ordered_powers p n =
    let scaled : lo_pow p n * S ^ n ≤ hi_pow p n * S ^ n = omega (arith, under_lo p n, over_hi p n) in
    le_of_mul-le-mul_right scaled (one-le-pow n S some)
