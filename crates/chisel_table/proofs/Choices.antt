-- The order of choices is total, and the least one is unique.
use Rattle.std.specs.Prelude.{nat_lt, ◌==◌, slice_index}
use Rattle.std.proofs.Common.{◌≡◌, ◌≢◌, ℕ, true, false, ◌≤◌, ◌<◌, refl, sym, ap, ◌∙◌, arith, Option, Some, None, List}
use Rattle.std.proofs.Math.Bool.{or-true}
use Rattle.std.proofs.lemmas.Bool.{eqb-true, eq-eqb, ltb-true, lt-ltb}
use Rattle.std.proofs.lemmas.Bool.Decides.{nat_tests}
use mathlib.Core.Logic.{◌⊎◌, inl, inr}
use Rattle.chisel_table.specs.declared.table.Table.{Table}
use Rattle.chisel_table.specs.Choices.{IsChoice, energy, before}
use Rattle.chisel_table.specs.Least.{IsLeast, IsOrdered}
use Rattle.chisel_table.specs.Soundness.{IsAsGood}
use Rattle.chisel_table.specs.Sums.{precedes_to}
use Rattle.chisel_table.specs.Tables.{decision_count}
use Rattle.chisel_table.proofs.Sequences.{Precedes, precedes_at, does_precede, precedes_not_itself, precedes_trans, compared, precedes_later, same_list}
use Rattle.chisel_table.proofs.Sums.{by_test, both}

-- `before` as a fact: less energy, or the same and earlier options
abbrev pub IsBefore : Table → List ℕ → List ℕ → Type 0
IsBefore t a b =
    (energy t a < energy t b) ⊎ ((energy t a ≡ energy t b) × Precedes (decision_count t) (slice_index a) (slice_index b))

pub before_is : (t : Table) (a b : List ℕ) → before t a b ≡ true → IsBefore t a b
before_is t a b h = by_test (nat_lt (energy t a) (energy t b))
    (λ e. inl (ltb-true _ _ e))
    (λ e. let w = both (energy t a == energy t b) (precedes_to (decision_count t) (slice_index a) (slice_index b)) (rw e at h) in
    inr (eqb-true _ _ w.0, precedes_at _ _ _ w.1))

pub is_before : (t : Table) (a b : List ℕ) → IsBefore t a b → before t a b ≡ true
is_before t a b (inl l) = rw (lt-ltb _ _ l) refl
is_before t a b (inr e) = rw (eq-eqb _ _ e.0, does_precede _ _ _ e.1) (or-true _)

pub not_before : (t : Table) (a b : List ℕ) → before t a b ≡ false → IsBefore t a b → ⊥
not_before t a b h k = let w = is_before t a b k in cc

pub before_trans : (t : Table) (a b c : List ℕ) → IsBefore t a b → IsBefore t b c → IsBefore t a c
before_trans t a b c (inl h) (inl k) = inl (omega arith)
before_trans t a b c (inl h) (inr k) = inl (let e = k.0 in omega arith)
before_trans t a b c (inr h) (inl k) = inl (let e = h.0 in omega arith)
before_trans t a b c (inr h) (inr k) = inr (h.0 ∙ k.0, precedes_trans _ _ _ _ h.1 k.1)

pub before_not_itself : (t : Table) (a : List ℕ) → IsBefore t a a → ⊥
before_not_itself t a (inl l) = omega arith
before_not_itself t a (inr h) = precedes_not_itself _ _ h.1

-- what is not before b is not before what is before b
pub not_before_better : (t : Table) (a b c : List ℕ) → before t c b ≡ false → IsBefore t a b → before t c a ≡ false
not_before_better t a b c h k = by_test (before t c a)
    (λ e. absurd (not_before t c b h (before_trans t c a b (before_is t c a e) k)))
    (λ e. e)

-- of two choices one is before the other, or they are one
pub before_total : (t : Table) (a b : List ℕ) → IsChoice t a → IsChoice t b → before t a b ≡ false → before t b a ≡ false → a ≡ b
before_total t a b p q h k =
    elim (compared (decision_count t) (slice_index a) (slice_index b)) [
      | inl w ↦ absurd (not_before t a b h (inr (even, w)))
      | inr (inl w) ↦ absurd (not_before t b a k (inr (sym even, w)))
      | inr (inr w) ↦ same_list (decision_count t) a b p.size q.size w
    ]
  where
    even : energy t a ≡ energy t b
    even = by_test (nat_lt (energy t a) (energy t b))
        (λ e. absurd (not_before t a b h (inl (ltb-true _ _ e))))
        (λ e. by_test (nat_lt (energy t b) (energy t a))
        (λ f. absurd (not_before t b a k (inl (ltb-true _ _ f))))
        (λ f. grind (arith, nat_tests)))

-- the least is one
pub least_unique : (t : Table) (a b : Option (List ℕ)) → IsLeast t a → IsLeast t b → a ≡ b
least_unique t (Some a) (Some b) p q = ap Some (before_total t a b p.0 q.0 (q.2 a p.0 p.1) (p.2 b q.0 q.1))
least_unique t (Some a) None p q = absurd (q a p.0 p.1)
least_unique t None (Some b) p q = absurd (p b q.0 q.1)
least_unique t None None p q = refl

-- where choices first differ decides between two of one energy
pub decided : (t : Table) (a b : List ℕ) (d : ℕ) → energy t a ≡ energy t b → d < decision_count t →
    ((k : ℕ) → k < d → slice_index a k ≡ slice_index b k) → slice_index a d ≢ slice_index b d →
    nat_lt (slice_index a d) (slice_index b d) ≡ before t a b
decided t a b d e l same ne = by_test (nat_lt (slice_index a d) (slice_index b d))
    (λ f. f ∙ sym (is_before t a b (inr (e, record { at = d; inside = l; less = ltb-true _ _ f; same = same }))))
    (λ f. f ∙ sym (by_test (before t a b)
    (λ g.
    let m : slice_index b d < slice_index a d = grind (arith, nat_tests) in
    let p : IsBefore t b a = inr (sym e, record { at = d; inside = l; less = m; same = λ k z. sym (same k z) }) in
    absurd (before_not_itself t a (before_trans t a b a (before_is t a b g) p)))
    (λ g. g)))

-- equal choices are not one before the other
pub undecided : (t : Table) (a b : List ℕ) → energy t a ≡ energy t b →
    ((k : ℕ) → k < decision_count t → slice_index a k ≡ slice_index b k) → before t a b ≡ false
undecided t a b e same = by_test (before t a b)
    (λ g. absurd (elim (before_is t a b g)
    [ inl l ↦ omega arith | inr q ↦ let w = q.1 in let z = same w.at w.inside in let l = w.less in omega arith ]))
    (λ g. g)

pub energy_as_good : (t : Table) (a b : List ℕ) → before t b a ≡ false → energy t a ≤ energy t b
energy_as_good t a b h = by_test (nat_lt (energy t b) (energy t a))
    (λ e. absurd (not_before t b a h (inl (ltb-true _ _ e))))
    (λ e. grind (arith, nat_tests))

-- what is before a choice is before every one that is no better
pub before_later : (t : Table) (z a b : List ℕ) → IsBefore t z a → before t b a ≡ false → IsBefore t z b
before_later t z a b (inl l) h = let e = energy_as_good t a b h in inl (omega arith)
before_later t z a b (inr w) h =
    let e = energy_as_good t a b h in
    let q = w.0 in
    by_test (nat_lt (energy t a) (energy t b))
    (λ l. let m = ltb-true _ _ l in inl (omega arith))
    (λ l. let even : energy t b ≡ energy t a = grind (arith, nat_tests) in
    inr (q ∙ sym even, precedes_later _ _ _ _ w.1 (λ x. not_before t b a h (inr (even, x)))))

pub as_good_trans : (t : Table) (a b c : Option (List ℕ)) → IsAsGood t a b → IsAsGood t b c → IsAsGood t a c
as_good_trans t a b None h k = tt
as_good_trans t a None (Some z) h k = absurd k
as_good_trans t None (Some y) (Some z) h k = absurd h
as_good_trans t (Some x) (Some y) (Some z) h k = by_test (before t z x)
    (λ e. absurd (not_before t z y k (before_later t z x y (before_is t z x e) h)))
    (λ e. e)

pub as_good_itself : (t : Table) (a : Option (List ℕ)) → IsAsGood t a a
as_good_itself t None = tt
as_good_itself t (Some a) = by_test (before t a a)
    (λ e. absurd (elim (before_is t a a e) [ inl l ↦ omega arith | inr q ↦ precedes_not_itself _ _ q.1 ]))
    (λ e. e)

-- what is before a choice is as good
pub before_as_good : (t : Table) (a b : List ℕ) → IsBefore t a b → before t b a ≡ false
before_as_good t a b h = not_before_better t a b b (as_good_itself t (Some b)) h

-- the order of choices is strict and total
pub ordered : (t : Table) → IsOrdered t
ordered t = record {
  irreflexive = λ a. as_good_itself t (Some a);
  transitive = λ a b c h k. is_before t a c (before_trans t a b c (before_is t a b h) (before_is t b c k));
  total = before_total t;
}
