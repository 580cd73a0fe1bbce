-- A closing rule is sound, the first one holds, and a better choice closes no less.
use Rattle.std.specs.Prelude.{nat_lt, ◌&&◌, slice_index, not, int_lt}
use Rattle.std.proofs.Common.{◌≡◌, ◌≢◌, ℕ, Bool, true, false, ◌≤◌, ◌<◌, refl, sym, arith, Option, Some, None, ◌*◌, List, length}
use Rattle.std.proofs.lemmas.Bool.{eq-eqb, ltb-true, lt-ltb}
use Rattle.std.proofs.lemmas.Bool.Decides.{nat_tests}
use Rattle.std.proofs.lemmas.Int.{ints}
use mathlib.Core.Logic.{◌⊎◌, inl, inr}
use lib.IntN.{pos, ◌-ℤ◌}
use Rattle.chisel_table.specs.declared.closing.Close.{Close}
use Rattle.chisel_table.specs.declared.closing.CloseRule.{CloseRule}
use Rattle.chisel_table.specs.declared.closing.CloseRule.TheVariants.{C, I, D, T}
use Rattle.chisel_table.specs.declared.lagrangian.TheConstants.{ENERGY_WEIGHT}
use Rattle.chisel_table.specs.declared.partial.Partial.{Partial}
use Rattle.chisel_table.specs.declared.table.Table.{Table}
use Rattle.chisel_table.specs.Choices.{energy, Meets, before}
use Rattle.chisel_table.specs.Closings.{row_closes, vector_closes, vector_at, rule_closes, first_by, close_or, first_close}
use Rattle.chisel_table.specs.Lagrangian.{value, excess, row_excess}
use Rattle.chisel_table.specs.Partials.{slot, is_unfixed, Completes, first_option}
use Rattle.chisel_table.specs.Soundness.{NoneBetter, Closes, NothingCloses, IsAsGood}
use Rattle.chisel_table.specs.Sums.{precedes_to}
use Rattle.chisel_table.specs.Tables.{decision_count, row_count}
use Rattle.chisel_table.proofs.Choices.{before_is, not_before, energy_as_good}
use Rattle.chisel_table.proofs.Relaxation.{row_excess_sound, excess_sound, value_sound}
use Rattle.chisel_table.proofs.Sequences.{precedes_at, does_precede, precedes_under, precedes_later}
use Rattle.chisel_table.proofs.Sums.{by_test, both, first_found, first_none, int_below, is_int_below, not_true, not_false}

-- ---- each rule is sound

-- a row that closes is met by no completion
row_sound : (t : Table) (p : Partial) (i : ℕ) (c : List ℕ) → i < row_count t → row_closes t p i ≡ true →
    Completes t p c → Meets t c → ⊥
row_sound t p i c l h k m =
    let a = row_excess_sound t p i c l k m in
    let e = int_below (pos 0) (row_excess t i p) h in
    omega (arith, ints)

impossible : (t : Table) (best : Option (List ℕ)) (p : Partial) → ((c : List ℕ) → Completes t p c → Meets t c → ⊥) → NoneBetter t best p
impossible t best p h = λ c k m. absurd (h c k m)

-- option 0 of each unfixed decision is nowhere above a completion
first_option_below : (t : Table) (p : Partial) (c : List ℕ) → Completes t p c → (d : ℕ) → d < decision_count t → first_option p d ≤ slice_index c d
first_option_below t p c h d l = by_test (is_unfixed p d)
    (λ e. rw e (omega arith))
    (λ e. let ne : slot p d ≢ 255 = λ z. absurd (let q = eq-eqb (slot p d) 255 z in cc) in
    rw (e, h.fixed d l ne) (omega arith))

below_sound : (t : Table) (b : List ℕ) (p : Partial) (l : List ℕ) → vector_closes t (Some b) p D l ≡ true → NoneBetter t (Some b) p
below_sound t b p l h c k m = by_test (before t c b)
    (λ e. absurd (
    let v = value_sound t p l c k m in
    let w = int_below (pos (ENERGY_WEIGHT * energy t b)) (value t l p) h in
    elim (before_is t c b e) [ inl x ↦ omega (arith, ints) | inr x ↦ let y = x.0 in omega (arith, ints) ]))
    (λ e. e)

tie_sound : (t : Table) (b : List ℕ) (p : Partial) (l : List ℕ) → vector_closes t (Some b) p T l ≡ true → NoneBetter t (Some b) p
tie_sound t b p l h c k m = by_test (before t c b)
    (λ e. absurd (
    let a = both _ _ h in
    let v = value_sound t p l c k m in
    let w = int_below (pos (ENERGY_WEIGHT * energy t b) -ℤ pos ENERGY_WEIGHT) (value t l p) a.0 in
    elim (before_is t c b e) [
      | inl x ↦ omega (arith, ints)
      | inr x ↦
          let z = does_precede _ _ _ (precedes_under (decision_count t) (first_option p) (slice_index c) (slice_index b) (first_option_below t p c k) x.1) in
          let y = not_true _ a.1 in
          cc
    ]))
    (λ e. e)

-- a closing rule is sound
pub vector_sound : (t : Table) (best : Option (List ℕ)) (p : Partial) (rule : CloseRule) (l : List ℕ) →
    vector_closes t best p rule l ≡ true → NoneBetter t best p
vector_sound t best p I l h = impossible t best p (λ c k m.
    let a = int_below (pos 0) (excess t l p) h in let b = excess_sound t p l c k m in omega (arith, ints))
vector_sound t (Some b) p D l h = below_sound t b p l h
vector_sound t (Some b) p T l h = tie_sound t b p l h
vector_sound t (Some b) p C l h = cc
vector_sound t None p C l h = cc
vector_sound t None p D l h = cc
vector_sound t None p T l h = cc

-- the same with the number of a row or of a vector of the pool
pub rule_sound : (t : Table) (pool : List (List ℕ)) (best : Option (List ℕ)) (p : Partial) (rule : CloseRule) (n : ℕ) →
    rule_closes t pool best p rule n ≡ true → NoneBetter t best p
rule_sound t pool best p C n h =
    let a = both _ _ h in impossible t best p (λ c k m. row_sound t p n c (ltb-true _ _ a.0) a.1 k m)
rule_sound t pool best p I n h = vector_sound t best p I (vector_at pool n) (both (nat_lt n (length pool)) _ h).1
rule_sound t pool best p D n h = vector_sound t best p D (vector_at pool n) (both (nat_lt n (length pool)) _ h).1
rule_sound t pool best p T n h = vector_sound t best p T (vector_at pool n) (both (nat_lt n (length pool)) _ h).1

-- ---- the first rule

close_or_some : (rule : CloseRule) (r : Option ℕ) (next : Option Close) (c : Close) → close_or rule r next ≡ Some c →
    ((n : ℕ) × (r ≡ Some n) × (c ≡ record { rule = rule; index = n })) ⊎ (next ≡ Some c)
close_or_some rule (Some n) next c h = inl (n, refl, let q : record { rule = rule; index = n } ≡ c = cc in sym q)
close_or_some rule None next c h = inr h

close_or_none : (rule : CloseRule) (r : Option ℕ) (next : Option Close) → close_or rule r next ≡ None → (r ≡ None) × (next ≡ None)
close_or_none rule (Some n) next h = absurd (cc)
close_or_none rule None next h = (refl, h)

first_by_holds : (t : Table) (pool : List (List ℕ)) (best : Option (List ℕ)) (p : Partial) (rule : CloseRule) (n : ℕ) →
    first_by t pool best p rule ≡ Some n → rule_closes t pool best p rule n ≡ true
first_by_holds t pool best p C n h = let a = first_found (row_count t) (row_closes t p) n h in rw (lt-ltb _ _ a.0) a.1
first_by_holds t pool best p I n h =
    let a = first_found (length pool) (λ j. vector_closes t best p I (vector_at pool j)) n h in rw (lt-ltb _ _ a.0) a.1
first_by_holds t pool best p D n h =
    let a = first_found (length pool) (λ j. vector_closes t best p D (vector_at pool j)) n h in rw (lt-ltb _ _ a.0) a.1
first_by_holds t pool best p T n h =
    let a = first_found (length pool) (λ j. vector_closes t best p T (vector_at pool j)) n h in rw (lt-ltb _ _ a.0) a.1

-- the first closing rule holds
pub first_close_holds : (t : Table) (pool : List (List ℕ)) (best : Option (List ℕ)) (p : Partial) (c : Close) →
    first_close t pool best p ≡ Some c → rule_closes t pool best p c.rule c.index ≡ true
first_close_holds t pool best p c h =
    at C (close_or_some C (first_by t pool best p C) _ c h)
    (λ h2. at I (close_or_some I (first_by t pool best p I) _ c h2)
    (λ h3. at D (close_or_some D (first_by t pool best p D) _ c h3)
    (λ h4. at T (close_or_some T (first_by t pool best p T) None c h4) (λ e. absurd (cc)))))
  where
    at : (rule : CloseRule) {A : Type 0} → ((n : ℕ) × (first_by t pool best p rule ≡ Some n) × (c ≡ record { rule = rule; index = n })) ⊎ A →
        (A → rule_closes t pool best p c.rule c.index ≡ true) → rule_closes t pool best p c.rule c.index ≡ true
    at rule (inl w) f = rw w.2 (first_by_holds t pool best p rule w.0 w.1)
    at rule (inr a) f = f a

row_none : (b c : Bool) → (b ≡ true → c ≡ false) → (b && c) ≡ false
row_none true c h = h refl
row_none false c h = refl

first_by_none : (t : Table) (pool : List (List ℕ)) (best : Option (List ℕ)) (p : Partial) (rule : CloseRule) →
    first_by t pool best p rule ≡ None → (n : ℕ) → rule_closes t pool best p rule n ≡ false
first_by_none t pool best p C h n =
    row_none (nat_lt n (row_count t)) _ (λ l. first_none (row_count t) (row_closes t p) h n (ltb-true _ _ l))
first_by_none t pool best p I h n =
    row_none (nat_lt n (length pool)) _ (λ l. first_none (length pool) (λ j. vector_closes t best p I (vector_at pool j)) h n (ltb-true _ _ l))
first_by_none t pool best p D h n =
    row_none (nat_lt n (length pool)) _ (λ l. first_none (length pool) (λ j. vector_closes t best p D (vector_at pool j)) h n (ltb-true _ _ l))
first_by_none t pool best p T h n =
    row_none (nat_lt n (length pool)) _ (λ l. first_none (length pool) (λ j. vector_closes t best p T (vector_at pool j)) h n (ltb-true _ _ l))

-- where there is no first closing rule, none holds
pub first_close_none : (t : Table) (pool : List (List ℕ)) (best : Option (List ℕ)) (p : Partial) →
    first_close t pool best p ≡ None → (rule : CloseRule) (n : ℕ) → rule_closes t pool best p rule n ≡ false
first_close_none t pool best p h =
    let a = close_or_none C (first_by t pool best p C) _ h in
    let b = close_or_none I (first_by t pool best p I) _ a.1 in
    let d = close_or_none D (first_by t pool best p D) _ b.1 in
    let e = close_or_none T (first_by t pool best p T) None d.1 in
    elim [
      | C ↦ first_by_none t pool best p C a.0
      | I ↦ first_by_none t pool best p I b.0
      | D ↦ first_by_none t pool best p D d.0
      | T ↦ first_by_none t pool best p T e.0
    ]

pub nothing_closes : NothingCloses
nothing_closes t pool best p h k = let e = first_close_none t pool best p h k.rule k.index in let w = k.holds in cc

-- a partial choice closes, or it has no first closing rule
pub closes_or_not : (t : Table) (pool : List (List ℕ)) (best : Option (List ℕ)) (p : Partial) →
    Closes t pool best p ⊎ (first_close t pool best p ≡ None)
closes_or_not t pool best p = go (first_close t pool best p) refl
  where
    go : (r : Option Close) → first_close t pool best p ≡ r → Closes t pool best p ⊎ (first_close t pool best p ≡ None)
    go (Some c) e = inl (record { rule = c.rule; index = c.index; holds = first_close_holds t pool best p c e })
    go None e = inr e

-- ---- a better choice

-- a vector that closes with b closes, by d or t, with a choice that is as good
vector_better : (t : Table) (a b : List ℕ) (p : Partial) (l : List ℕ) (rule : CloseRule) → before t b a ≡ false →
    vector_closes t (Some b) p rule l ≡ true → (r : CloseRule) × (vector_closes t (Some a) p r l ≡ true) × (r ≢ C)
vector_better t a b p l I h v = (I, v, λ e. cc)
vector_better t a b p l C h v = cc
vector_better t a b p l D h v =
    let e = energy_as_good t a b h in
    let w = int_below (pos (ENERGY_WEIGHT * energy t b)) (value t l p) v in
    (D, is_int_below (pos (ENERGY_WEIGHT * energy t a)) (value t l p) (omega (arith, ints)), λ q. cc)
vector_better t a b p l T h v =
    let e = energy_as_good t a b h in
    let w = both (int_lt (pos (ENERGY_WEIGHT * energy t b) -ℤ pos ENERGY_WEIGHT) (value t l p)) (not (precedes_to (decision_count t) (first_option p) (slice_index b))) v in
    let x = int_below (pos (ENERGY_WEIGHT * energy t b) -ℤ pos ENERGY_WEIGHT) (value t l p) w.0 in
    by_test (nat_lt (energy t a) (energy t b))
    (λ lt. let y = ltb-true _ _ lt in (D, is_int_below (pos (ENERGY_WEIGHT * energy t a)) (value t l p) (omega (arith, ints)), λ q. cc))
    (λ ge.
    let even : energy t b ≡ energy t a = grind (arith, nat_tests) in
    let z : precedes_to (decision_count t) (first_option p) (slice_index a) ≡ false =
    by_test (precedes_to (decision_count t) (first_option p) (slice_index a))
    (λ f. absurd (
    let g = does_precede _ _ _ (precedes_later (decision_count t) (first_option p) (slice_index a) (slice_index b) (precedes_at _ _ _ f)
    (λ q. not_before t b a h (inr (even, q)))) in
    let k = not_true _ w.1 in cc))
    (λ f. f) in
    (T, rw (is_int_below (pos (ENERGY_WEIGHT * energy t a) -ℤ pos ENERGY_WEIGHT) (value t l p) (omega (arith, ints))) (not_false _ z), λ q. cc))

vector_closing : (t : Table) (pool : List (List ℕ)) (best : Option (List ℕ)) (p : Partial) (r : CloseRule) (j : ℕ) → r ≢ C → nat_lt j (length pool) ≡ true →
    vector_closes t best p r (vector_at pool j) ≡ true → Closes t pool best p
vector_closing t pool best p C j ne l v = absurd (ne refl)
vector_closing t pool best p I j ne l v = record { rule = I; index = j; holds = rw l v }
vector_closing t pool best p D j ne l v = record { rule = D; index = j; holds = rw l v }
vector_closing t pool best p T j ne l v = record { rule = T; index = j; holds = rw l v }

indexed_better : (t : Table) (pool : List (List ℕ)) (best better : Option (List ℕ)) (p : Partial) (rule : CloseRule) (j : ℕ) → rule ≢ C → IsAsGood t better best →
    (nat_lt j (length pool) && vector_closes t best p rule (vector_at pool j)) ≡ true → Closes t pool better p
indexed_better t pool None better p I j ne g h =
    let a = both _ _ h in vector_closing t pool better p I j ne a.0 a.1
indexed_better t pool None better p C j ne g h = absurd (ne refl)
indexed_better t pool None better p D j ne g h = let a = both (nat_lt j (length pool)) _ h in cc
indexed_better t pool None better p T j ne g h = let a = both (nat_lt j (length pool)) _ h in cc
indexed_better t pool (Some b) None p rule j ne g h = absurd g
indexed_better t pool (Some b) (Some a) p rule j ne g h =
    let w = both (nat_lt j (length pool)) _ h in
    let v = vector_better t a b p (vector_at pool j) rule g w.1 in
    vector_closing t pool (Some a) p v.0 j v.2 w.0 v.1

-- what closes with a best choice closes with every better one
pub closes_better : (t : Table) (pool : List (List ℕ)) (best better : Option (List ℕ)) (p : Partial) → IsAsGood t better best →
    Closes t pool best p → Closes t pool better p
closes_better t pool best better p g h = go h.rule h.index h.holds
  where
    go : (rule : CloseRule) (n : ℕ) → rule_closes t pool best p rule n ≡ true → Closes t pool better p
    go C n k = record { rule = C; index = n; holds = k }
    go I n k = indexed_better t pool best better p I n (λ e. cc) g k
    go D n k = indexed_better t pool best better p D n (λ e. cc) g k
    go T n k = indexed_better t pool best better p T n (λ e. cc) g k
