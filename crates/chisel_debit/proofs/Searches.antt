-- The least and the greatest number up to n at which a test holds.
use Rattle.std.proofs.Common.{◌≡◌, ℕ, zero, suc, Bool, true, false, ◌≤◌, ◌<◌, refl, ap, ◌∙◌, arith, Option, Some, None}
use Rattle.std.specs.Ordering.{is_lt, nat_cmp}
use Rattle.std.specs.declared.cmp.Ordering.TheVariants.{Equal}
use Rattle.std.proofs.lemmas.Cmp.{by_ranked, ranked}
use Rattle.std.specs.Prelude.{nat_le, nat_lt, if◌then◌else◌}
use Rattle.std.proofs.lemmas.Bool.{leb-true, ltb-true}
use Rattle.std.proofs.lemmas.Bool.Decides.{nat_tests}
use Rattle.chisel_debit.specs.Debits.{least_upto, greatest_upto}

pub by_test : {P : Type 0} (b : Bool) → (b ≡ true → P) → (b ≡ false → P) → P
by_test true f g = f refl
by_test false f g = g refl

-- what a comparison of two numbers says
pub below_is : (a b : ℕ) → is_lt (nat_cmp a b) ≡ true → a < b
below_is a b h =
    by_ranked (a < b) (a ≡ b) (b < a) (nat_cmp a b) (ranked a b (nat_cmp a b) refl)
    (λ e below. below)
    (λ e same. absurd (let w = rw e at h in cc))
    (λ e above. absurd (let w = rw e at h in cc))

pub equal_is : (a b : ℕ) → nat_cmp a b ≡ Equal → a ≡ b
equal_is a b h =
    by_ranked (a < b) (a ≡ b) (b < a) (nat_cmp a b) (ranked a b (nat_cmp a b) refl)
    (λ e below. absurd (cc))
    (λ e same. same)
    (λ e above. absurd (cc))

-- the test holds at d, and nowhere before
pub record IsFirst (n : ℕ) (f : ℕ → Bool) (d : ℕ) : Type 0 where
  pub within : d ≤ n
  pub holds : f d ≡ true
  pub none_before : (k : ℕ) → k < d → f k ≡ false

-- and nowhere after
pub record IsLast (n : ℕ) (f : ℕ → Bool) (d : ℕ) : Type 0 where
  pub within : d ≤ n
  pub holds : f d ≡ true
  pub none_after : (k : ℕ) → d < k → k ≤ n → f k ≡ false

-- it holds nowhere up to n
pub record IsNowhere (n : ℕ) (f : ℕ → Bool) : Type 0 where
  pub none : (k : ℕ) → k ≤ n → f k ≡ false

-- what a search that answers r has found
abbrev pub FindsFirst : ℕ → (ℕ → Bool) → Option ℕ → Type 0
FindsFirst n f (Some d) = IsFirst n f d
FindsFirst n f None = IsNowhere n f

abbrev pub FindsLast : ℕ → (ℕ → Bool) → Option ℕ → Type 0
FindsLast n f (Some d) = IsLast n f d
FindsLast n f None = IsNowhere n f

pub finds_first : (n : ℕ) (f : ℕ → Bool) → FindsFirst n f (least_upto n f)
unfolding least_upto
finds_first zero f = go (f zero) refl
  where
    go : (b : Bool) → f zero ≡ b → FindsFirst zero f (if b then Some zero else None)
    go true e = record { within = omega arith; holds = e; none_before = λ k l. absurd (omega arith) }
    go false e = record { none = λ k l. let z : k ≡ 0 = omega arith in ap f z ∙ e }
finds_first (suc n) f = go (least_upto n f) (finds_first n f)
  where
    last : (b : Bool) → f (suc n) ≡ b → IsNowhere n f → FindsFirst (suc n) f (if b then Some (suc n) else None)
    last true e h = record { within = omega arith; holds = e; none_before = λ k l. h.none k (omega arith) }
    last false e h = record {
      none = λ k l. by_test (nat_le k n)
          (λ x. h.none k (leb-true k n x))
          (λ x. let z : k ≡ suc n = grind (arith, nat_tests) in ap f z ∙ e);
    }

    go : (r : Option ℕ) → FindsFirst n f r → FindsFirst (suc n) f (elim r [ Some k ↦ Some k | None ↦ if f (suc n) then Some (suc n) else None ])
    go (Some d) h = record { within = let w = h.within in omega arith; holds = h.holds; none_before = h.none_before }
    go None h = last (f (suc n)) refl h

pub finds_last : (n : ℕ) (f : ℕ → Bool) → FindsLast n f (greatest_upto n f)
unfolding greatest_upto
finds_last zero f = go (f zero) refl
  where
    go : (b : Bool) → f zero ≡ b → FindsLast zero f (if b then Some zero else None)
    go true e = record { within = omega arith; holds = e; none_after = λ k l m. absurd (omega arith) }
    go false e = record { none = λ k l. let z : k ≡ 0 = omega arith in ap f z ∙ e }
finds_last (suc n) f = go (f (suc n)) refl (greatest_upto n f) (finds_last n f)
  where
    longer : (r : Option ℕ) → f (suc n) ≡ false → FindsLast n f r → FindsLast (suc n) f r
    longer (Some d) e h = record {
      within = let w = h.within in omega arith;
      holds = h.holds;
      none_after = λ k l m. by_test (nat_le k n)
          (λ x. h.none_after k l (leb-true k n x))
          (λ x. let z : k ≡ suc n = grind (arith, nat_tests) in ap f z ∙ e);
    }
    longer None e h = record {
      none = λ k m. by_test (nat_le k n)
          (λ x. h.none k (leb-true k n x))
          (λ x. let z : k ≡ suc n = grind (arith, nat_tests) in ap f z ∙ e);
    }

    go : (b : Bool) → f (suc n) ≡ b → (r : Option ℕ) → FindsLast n f r → FindsLast (suc n) f (if b then Some (suc n) else r)
    go true e r h = record { within = omega arith; holds = e; none_after = λ k l m. absurd (omega arith) }
    go false e r h = longer r e h

-- a first place is the only one
pub first_one : (n : ℕ) (f : ℕ → Bool) (d e : ℕ) → IsFirst n f d → IsFirst n f e → d ≡ e
first_one n f d e h k = by_test (nat_lt d e)
    (λ x. absurd (let a = k.none_before d (ltb-true d e x) in let b = h.holds in cc))
    (λ x. by_test (nat_lt e d)
    (λ y. absurd (let a = h.none_before e (ltb-true e d y) in let b = k.holds in cc))
    (λ y. grind (arith, nat_tests)))

pub last_one : (n : ℕ) (f : ℕ → Bool) (d e : ℕ) → IsLast n f d → IsLast n f e → d ≡ e
last_one n f d e h k = by_test (nat_lt d e)
    (λ x. absurd (let a = h.none_after e (ltb-true d e x) k.within in let b = k.holds in cc))
    (λ x. by_test (nat_lt e d)
    (λ y. absurd (let a = k.none_after d (ltb-true e d y) h.within in let b = h.holds in cc))
    (λ y. grind (arith, nat_tests)))
