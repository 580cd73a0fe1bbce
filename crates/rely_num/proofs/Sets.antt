-- Sets of variables, variable by variable.
use Rattle.std.proofs.Common.{◌≡◌, ◌≢◌, ℕ, zero, suc, ◌+◌, ◌*◌, ◌%◌, ◌^◌, ◌<◌, min, max, true, false, ◌||◌, eqb, refl, ap, sym, ◌∙◌, arith}
use Rattle.std.specs.Int.{bit_at}
use Rattle.std.specs.Prelude.{bit_and}
use Rattle.std.proofs.lemmas.Bool.{eqb-true, eq-eqb}
use Rattle.std.proofs.lemmas.Nat.{one_shl}
use Rattle.std.proofs.lemmas.Nat.Bits.{shr_and_one, bit_at_and, bit_at_or, bit_at_xor, bit_at-pow_same, bit_at-pow_other, bit_at-lt, bit_at-zero, same_from_bits}
use Rattle.rely_num.specs.Sets.{has, only, without, union, is_within}

-- a bit below 64, shifted into its place
pub one_shl_64 : (v : ℕ) → v < 64 → (1 * 2 ^ v) % 2 ^ 64 ≡ 2 ^ v
one_shl_64 v h = one_shl v 64 h

pub ruleset bits = (one_shl_64, shr_and_one)

-- the greater of two bits
greater_bit : (p q : ℕ) → p < 2 → q < 2 → eqb (max p q) 1 ≡ (eqb p 1 || eqb q 1)
greater_bit zero zero h k = refl
greater_bit zero (suc zero) h k = refl
greater_bit zero (suc (suc q)) h k = absurd (omega (arith, k))
greater_bit (suc zero) zero h k = refl
greater_bit (suc zero) (suc zero) h k = refl
greater_bit (suc zero) (suc (suc q)) h k = absurd (omega (arith, k))
greater_bit (suc (suc p)) q h k = absurd (omega (arith, h))

-- the empty set has no variable
pub has_empty : (v : ℕ) → has 0 v ≡ false
has_empty v = ap (λ b. eqb b 1) (bit_at-zero v)

-- a union has what either has
pub has_union : (a b v : ℕ) → has (union a b) v ≡ (has a v || has b v)
has_union a b v = ap (λ c. eqb c 1) (bit_at_or a b v) ∙ greater_bit (bit_at a v) (bit_at b v) (bit_at-lt a v) (bit_at-lt b v)

-- a single variable's set has it
pub has_only_same : (v : ℕ) → has (only v) v ≡ true
has_only_same v = ap (λ b. eqb b 1) (bit_at-pow_same v)

-- and no other
pub has_only_other : (v w : ℕ) → w ≢ v → has (only v) w ≡ false
has_only_other v w other = ap (λ b. eqb b 1) (bit_at-pow_other v w other)

-- the bits of a set without a variable
without_bits : (set v w : ℕ) → bit_at (without set v) w ≡ (bit_at set w + min (bit_at set w) (bit_at (only v) w)) % 2
without_bits set v w = bit_at_xor set (bit_and set (only v)) w ∙ ap (λ b. (bit_at set w + b) % 2) (bit_at_and set (only v) w)

-- what is taken out is gone
pub has_without_same : (set v : ℕ) → has (without set v) v ≡ false
has_without_same set v =
    let one : bit_at (only v) v ≡ 1 = bit_at-pow_same v in
    let below : bit_at set v < 2 = bit_at-lt set v in
    let gone : (bit_at set v + min (bit_at set v) 1) % 2 ≡ 0 = omega arith in
    ap (λ b. eqb b 1) (without_bits set v v ∙ (ap (λ b. (bit_at set v + min (bit_at set v) b) % 2) one ∙ gone))

-- and all else stays
pub has_without_other : (set v w : ℕ) → w ≢ v → has (without set v) w ≡ has set w
has_without_other set v w other =
    let none : bit_at (only v) w ≡ 0 = bit_at-pow_other v w other in
    let below : bit_at set w < 2 = bit_at-lt set w in
    let same : (bit_at set w + min (bit_at set w) 0) % 2 ≡ bit_at set w = omega arith in
    ap (λ b. eqb b 1) (without_bits set v w ∙ (ap (λ b. (bit_at set w + min (bit_at set w) b) % 2) none ∙ same))

-- a subset's variables are the larger set's
pub has_from_within : (small large v : ℕ) → is_within small large ≡ true → has small v ≡ true → has large v ≡ true
has_from_within small large v within here =
    let same : bit_and small large ≡ small = eqb-true (bit_and small large) small within in
    let least : min (bit_at small v) (bit_at large v) ≡ bit_at small v = sym (bit_at_and small large v) ∙ ap (λ s. bit_at s v) same in
    let one : bit_at small v ≡ 1 = eqb-true (bit_at small v) 1 here in
    let below : bit_at large v < 2 = bit_at-lt large v in
    eq-eqb (bit_at large v) 1 (omega arith)

-- a set whose variables are all another's is its subset
pub within_from_has : (small large : ℕ) → ((v : ℕ) → has small v ≡ true → has large v ≡ true) → is_within small large ≡ true
within_from_has small large each = eq-eqb (bit_and small large) small (same_from_bits (bit_and small large) small (λ v. bit_at_and small large v ∙ least v (bit_at small v) refl))
  where
    least : (v b : ℕ) → bit_at small v ≡ b → min (bit_at small v) (bit_at large v) ≡ bit_at small v
    least v zero e = omega arith
    least v (suc zero) e = let one : bit_at large v ≡ 1 = eqb-true (bit_at large v) 1 (each v (eq-eqb (bit_at small v) 1 e)) in omega arith
    least v (suc (suc b)) e = absurd (omega (arith, bit_at-lt small v))
