-- Powers of a base, rounded up or down at each product.
use Rattle.std.proofs.Common.{◌≡◌, ℕ, zero, suc, ◌+◌, ◌*◌, ◌/◌, ◌^◌, ◌≤◌, refl, ap, ◌∙◌, arith, add-one}
use Rattle.std.proofs.Math.Nat.{pow-zero, pow-suc, mul-le-mul_right, div-mul-le_self}
use Rattle.std.proofs.lemmas.Grind.{div_ceil_times}
use Rattle.std.proofs.lemmas.Nat.{le-div}
use Rattle.rely_num.specs.Bounds.{S}
use Rattle.rely_num.specs.Rounded.{mul_lo, mul_hi}
use Rattle.chisel_debit.specs.Debits.{up, low}

-- one more product
pub up_more : (base d : ℕ) → up base (d + 1) ≡ mul_hi (up base d) base
unfolding up
up_more base d = rw add-one refl

pub up_none : (base : ℕ) → up base 0 ≡ S
unfolding up
up_none base = refl

pub low_more : (base d : ℕ) → low base (d + 1) ≡ mul_lo (low base d) base
unfolding low
low_more base d = rw add-one refl

pub low_none : (base : ℕ) → low base 0 ≡ S
unfolding low
low_none base = refl

-- rounded up, it is at least the exact power
pub up_power : (base d : ℕ) → S * base ^ d ≤ up base d * S ^ d
unfolding up
up_power base zero = rw pow-zero (omega arith)
up_power base (suc d) =
    let h1 = mul-le-mul_right base (up_power base d) in
    let h2 = mul-le-mul_right (S ^ d) ((div_ceil_times (up base d * base) S (omega arith)).0) in
    rw (pow-suc base d, pow-suc S d) (omega (arith, h1, h2))

-- rounded down, at most
pub low_power : (base d : ℕ) → low base d * S ^ d ≤ S * base ^ d
unfolding low
low_power base zero = rw pow-zero (omega arith)
low_power base (suc d) =
    let h1 = mul-le-mul_right base (low_power base d) in
    let h2 = mul-le-mul_right (S ^ d) (div-mul-le_self (low base d * base) S) in
    rw (pow-suc base d, pow-suc S d) (omega (arith, h1, h2))

-- where a power is the same again, all later ones are
stays : (next powers : ℕ → ℕ) → ((d : ℕ) → powers (d + 1) ≡ next (powers d)) → (d n : ℕ) → next (powers d) ≡ powers d → powers (d + n) ≡ powers d
stays next powers more d zero h = ap powers (omega arith)
stays next powers more d (suc n) h =
    let e : d + suc n ≡ (d + n) + 1 = omega arith in
    ap powers e ∙ more (d + n) ∙ ap next (stays next powers more d n h) ∙ h

pub up_stays : (base d n : ℕ) → mul_hi (up base d) base ≡ up base d → up base (d + n) ≡ up base d
up_stays base = stays (λ x. mul_hi x base) (up base) (up_more base)

pub low_stays : (base d n : ℕ) → mul_lo (low base d) base ≡ low base d → low base (d + n) ≡ low base d
low_stays base = stays (λ x. mul_lo x base) (low base) (low_more base)

mul_lo_keeps : (a b base : ℕ) → a ≤ b → mul_lo a base ≤ mul_lo b base
mul_lo_keeps a b base h =
    let m = mul-le-mul_right base h in
    let d = div-mul-le_self (a * base) S in
    le-div (a * base / S) (b * base) S (omega arith) (omega (arith, m, d))

-- where a power isn't above the one before, no later one is
pub low_falls : (base d n : ℕ) → low base (d + 1) ≤ low base d → low base ((d + n) + 1) ≤ low base (d + n)
low_falls base d zero h = let e : d + 0 ≡ d = omega arith in rw e h
low_falls base d (suc n) h =
    let e : d + suc n ≡ (d + n) + 1 = omega arith in
    let m = mul_lo_keeps (low base ((d + n) + 1)) (low base (d + n)) base (low_falls base d n h) in
    rw e (omega (arith, m, low_more base ((d + n) + 1), low_more base (d + n)))

-- so all later ones are at most it
pub low_below : (base d n : ℕ) → low base (d + 1) ≤ low base d → low base (d + n) ≤ low base d
low_below base d zero h = let e : d + 0 ≡ d = omega arith in rw e (omega arith)
low_below base d (suc n) h =
    let e : d + suc n ≡ (d + n) + 1 = omega arith in
    rw e (omega (arith, low_falls base d n h, low_below base d n h))
