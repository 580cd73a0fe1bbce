-- A power by halving does not depend on its depth.
use Rattle.std.proofs.Common.{◌≡◌, ℕ, zero, suc, ◌/◌, ◌%◌, ◌<◌, ◌≤◌, refl, ap, ◌∙◌, arith}
use Rattle.rely_num.specs.Bounds.{S}
use Rattle.rely_num.specs.Rounded.{mul_lo, mul_hi, squared, power, lo_pow, hi_pow}

-- any two depths that are deep enough
power_deeper : (mul : ℕ → ℕ → ℕ) (d e p n : ℕ) → n ≤ d → n ≤ e → power mul d p n ≡ power mul e p n
unfolding power
power_deeper mul zero zero p n h k = refl
power_deeper mul zero (suc e) p zero h k = refl
power_deeper mul zero (suc e) p (suc n) h k = absurd (omega (arith, h))
power_deeper mul (suc d) zero p zero h k = refl
power_deeper mul (suc d) zero p (suc n) h k = absurd (omega (arith, k))
power_deeper mul (suc d) (suc e) p zero h k = refl
power_deeper mul (suc d) (suc e) p (suc zero) h k = refl
power_deeper mul (suc d) (suc e) p (suc (suc n)) h k =
    ap (squared mul p (n % 2)) (power_deeper mul d e p (suc (suc n) / 2) (omega arith) (omega arith))

-- two rounds of counting leave the parity
parity : (n : ℕ) → n % 2 ≡ suc (suc n) % 2
parity n = omega arith

-- one step of halving
power_half : (mul : ℕ → ℕ → ℕ) (p n : ℕ) → 1 < n → power mul n p n ≡ squared mul p (n % 2) (power mul (n / 2) p (n / 2))
unfolding power
power_half mul p zero h = absurd (omega (arith, h))
power_half mul p (suc zero) h = absurd (omega (arith, h))
power_half mul p (suc (suc n)) h =
    ap (λ r. squared mul p r (power mul (suc n) p (suc (suc n) / 2))) (parity n) ∙
    ap (squared mul p (suc (suc n) % 2)) (power_deeper mul (suc n) (suc (suc n) / 2) p (suc (suc n) / 2) (omega arith) (omega arith))

-- at an even exponent
even_half : (mul : ℕ → ℕ → ℕ) (p n : ℕ) → 1 < n → n % 2 ≡ 0 → power mul n p n ≡ mul (power mul (n / 2) p (n / 2)) (power mul (n / 2) p (n / 2))
even_half mul p n h even = power_half mul p n h ∙ ap (λ r. squared mul p r (power mul (n / 2) p (n / 2))) even

-- at an odd exponent
odd_half : (mul : ℕ → ℕ → ℕ) (p n : ℕ) → 1 < n → n % 2 ≡ 1 → power mul n p n ≡ mul (mul (power mul (n / 2) p (n / 2)) (power mul (n / 2) p (n / 2))) p
odd_half mul p n h odd = power_half mul p n h ∙ ap (λ r. squared mul p r (power mul (n / 2) p (n / 2))) odd

-- no power is one
pub lo_pow_none : (p : ℕ) → lo_pow p 0 ≡ S
unfolding lo_pow power
lo_pow_none p = refl

-- the first power is the number
pub lo_pow_one : (p : ℕ) → lo_pow p 1 ≡ p
unfolding lo_pow power
lo_pow_one p = refl

-- an even power is the square of its half, rounded down
pub lo_pow_even : (p n : ℕ) → 1 < n → n % 2 ≡ 0 → lo_pow p n ≡ mul_lo (lo_pow p (n / 2)) (lo_pow p (n / 2))
unfolding lo_pow
lo_pow_even p n h even = even_half mul_lo p n h even

-- an odd power is one factor more, rounded down
pub lo_pow_odd : (p n : ℕ) → 1 < n → n % 2 ≡ 1 → lo_pow p n ≡ mul_lo (mul_lo (lo_pow p (n / 2)) (lo_pow p (n / 2))) p
unfolding lo_pow
lo_pow_odd p n h odd = odd_half mul_lo p n h odd

-- no power is one
pub hi_pow_none : (p : ℕ) → hi_pow p 0 ≡ S
unfolding hi_pow power
hi_pow_none p = refl

-- the first power is the number
pub hi_pow_one : (p : ℕ) → hi_pow p 1 ≡ p
unfolding hi_pow power
hi_pow_one p = refl

-- an even power is the square of its half, rounded up
pub hi_pow_even : (p n : ℕ) → 1 < n → n % 2 ≡ 0 → hi_pow p n ≡ mul_hi (hi_pow p (n / 2)) (hi_pow p (n / 2))
unfolding hi_pow
hi_pow_even p n h even = even_half mul_hi p n h even

-- an odd power is one factor more, rounded up
pub hi_pow_odd : (p n : ℕ) → 1 < n → n % 2 ≡ 1 → hi_pow p n ≡ mul_hi (mul_hi (hi_pow p (n / 2)) (hi_pow p (n / 2))) p
unfolding hi_pow
hi_pow_odd p n h odd = odd_half mul_hi p n h odd

pub ruleset lo_powers = (lo_pow_none, lo_pow_one, lo_pow_even, lo_pow_odd)

pub ruleset hi_powers = (hi_pow_none, hi_pow_one, hi_pow_even, hi_pow_odd)
