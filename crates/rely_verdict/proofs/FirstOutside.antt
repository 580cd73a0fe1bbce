-- Which variable is the first outside the needs, and where there is none.
use Rattle.std.proofs.Common.{◌≡◌, ℕ, zero, suc, ◌+◌, ◌<◌, Bool, true, false, not, ◌&&◌, List, [], ◌∷◌, Some, None, Option, refl, sym, ap, subst, ◌∙◌, arith, inl, inr}
use Rattle.std.specs.Prelude.{slice_get, filter_map, IsTrue, IsFalse}
use Rattle.std.specs.List.{AllByRecursion, cons_option, range_with_len}
use Rattle.std.proofs.lemmas.Bool.{cases_lt}
use Rattle.std.proofs.lemmas.Option.{same_Some}
use Rattle.rely_num.specs.Sets.{has}
use Rattle.rely_num.specs.declared.conj.Conj.{Conj}
use Rattle.rely_verdict.specs.Judged.{outside, first_outside, NamesWithin, IsFirstOutside, FoundIsFirstOutside, NoneIsWithin}
use Rattle.rely_verdict.proofs.Steps.{each_at, found_in, in_range, none_found, none_mapped}

-- ---- one conjunct

-- a member that is not outside is inside
inside : (b c : Bool) → (b && not c) ≡ false → b ≡ true → c ≡ true
inside true true h e = refl
inside true false h e = absurd (cc)
inside false c h e = absurd (cc)

-- one that is outside is no member of the needs
parts : (b c : Bool) → (b && not c) ≡ true → (b ≡ true) × (c ≡ false)
parts true false h = (refl, refl)
parts true true h = absurd (cc)
parts false c h = absurd (cc)

-- a test has one answer
clash : (b : Bool) → b ≡ true → b ≡ false → ⊥
clash b h e = cc

-- where none is outside, each variable is needed
outside_none : (needs : ℕ) (c : Conj) → outside needs c ≡ None → NamesWithin needs 64 c
outside_none needs c e v below named =
    let none : AllByRecursion (λ u. (has c.vars.bits u && not (has needs u)) ≡ false) (range_with_len 0 64) = none_found (λ u. has c.vars.bits u && not (has needs u)) (range_with_len 0 64) e in
    let shift : 0 + v ≡ v = omega arith in
    let here : (has c.vars.bits v && not (has needs v)) ≡ false =
    subst (λ u. (has c.vars.bits u && not (has needs u)) ≡ false) shift (in_range (λ u. (has c.vars.bits u && not (has needs u)) ≡ false) 0 64 v below none) in
    inside (has c.vars.bits v) (has needs v) here named

-- one that is found is the least outside
outside_some : (needs : ℕ) (c : Conj) (v : ℕ) → outside needs c ≡ Some v → (v < 64) × IsTrue (has c.vars.bits v) × IsFalse (has needs v) × NamesWithin needs v c
outside_some needs c v e =
    let r = found_in (λ u. has c.vars.bits u && not (has needs u)) 0 64 v e in
    let p = parts (has c.vars.bits v) (has needs v) r.2 in
    (omega (arith, r.1), p.0, p.1, λ u below named. inside (has c.vars.bits u) (has needs u) (r.3 u (omega arith) below) named)

-- ---- all conjuncts

-- nothing is found only where each conjunct names needs alone
none_within : (needs : ℕ) (cs : List Conj) → AllByRecursion (λ c. outside needs c ≡ None) cs → AllByRecursion (NamesWithin needs 64) cs
none_within needs [] h = tt
none_within needs (c ∷ cs) h = (outside_none needs c h.0, none_within needs cs h.1)

-- where each conjunct before names needs alone, and one more does
one_more : (needs : ℕ) (c : Conj) (cs : List Conj) (n : ℕ) → NamesWithin needs 64 c → ((i : ℕ) (d : Conj) → i < n → slice_get cs i ≡ Some d → NamesWithin needs 64 d)
    → (i : ℕ) (d : Conj) → i < suc n → slice_get (c ∷ cs) i ≡ Some d → NamesWithin needs 64 d
one_more needs c cs n here later zero d below e = subst (NamesWithin needs 64) (same_Some c d e) here
one_more needs c cs n here later (suc i) d below e = later i d (omega (arith, below)) e

-- what is found is the first
pub first_is : (needs : ℕ) (cs : List Conj) (v : ℕ) → first_outside needs cs ≡ Some v → IsFirstOutside needs cs v
first_is needs [] v e = absurd (cc)
first_is needs (c ∷ cs) v e = by_case (outside needs c) refl e (first_is needs cs v)
  where
    by_case : (o : Option ℕ) → outside needs c ≡ o → slice_get (cons_option o (filter_map (outside needs) cs)) 0 ≡ Some v
        → (first_outside needs cs ≡ Some v → IsFirstOutside needs cs v) → IsFirstOutside needs (c ∷ cs) v
    by_case (Some w) is e more =
        let same : w ≡ v = same_Some w v e in
        let r = outside_some needs c v (is ∙ ap Some same) in
        record {
          at = 0;
          conjunct = c;
          there = refl;
          number = r.0;
          named = r.1;
          not_needed = r.2;
          least = r.3;
          first = λ i d below there. absurd (omega (arith, below));
        }
    by_case None is e more =
        let r = more e in
        record {
          at = suc r.at;
          conjunct = r.conjunct;
          there = r.there;
          number = r.number;
          named = r.named;
          not_needed = r.not_needed;
          least = r.least;
          first = one_more needs c cs r.at (outside_none needs c is) r.first;
        }

-- numbers neither of which is less
only_equal : (m n : ℕ) → (m < n → ⊥) → (n < m → ⊥) → m ≡ n
only_equal m n h j = elim (cases_lt m n) [
  | inl less ↦ absurd (h less)
  | inr most ↦ elim (cases_lt n m) [
    | inl less ↦ absurd (j less)
    | inr least ↦ omega (arith, most, least)
  ]
]

module _ (needs : ℕ) (cs : List Conj) where
  -- no first comes before another
  not_before : (v w : ℕ) (a : IsFirstOutside needs cs v) (b : IsFirstOutside needs cs w) → a.at < b.at → ⊥
  not_before v w a b less = clash (has needs v) (b.first a.at a.conjunct less a.there v a.number a.named) a.not_needed

  -- and none of the same conjunct is less
  not_less : (v w : ℕ) (a : IsFirstOutside needs cs v) (b : IsFirstOutside needs cs w) → a.conjunct ≡ b.conjunct → v < w → ⊥
  not_less v w a b same less = clash (has needs v) (b.least v less (subst (λ (c : Conj). IsTrue (has c.vars.bits v)) same a.named)) a.not_needed

  -- so there is one
  one_first : (v w : ℕ) → IsFirstOutside needs cs v → IsFirstOutside needs cs w → v ≡ w
  one_first v w a b =
      let place : a.at ≡ b.at = only_equal a.at b.at (not_before v w a b) (not_before w v b a) in
      let same : a.conjunct ≡ b.conjunct = same_Some a.conjunct b.conjunct (sym a.there ∙ ap (slice_get cs) place ∙ b.there) in
      only_equal v w (not_less v w a b same) (not_less w v b a (sym same))

  -- a first is not passed over
  not_none : (v : ℕ) → IsFirstOutside needs cs v → AllByRecursion (NamesWithin needs 64) cs → ⊥
  not_none v a within = clash (has needs v) (each_at (NamesWithin needs 64) cs a.at a.conjunct within a.there v a.number a.named) a.not_needed

  -- the first is found
  pub first_from : (v : ℕ) → IsFirstOutside needs cs v → first_outside needs cs ≡ Some v
  first_from v a = by_case (first_outside needs cs) refl
    where
      by_case : (o : Option ℕ) → first_outside needs cs ≡ o → o ≡ Some v
      by_case (Some w) e = ap Some (one_first w v (first_is needs cs w e) a)
      by_case None e = absurd (not_none v a (none_within needs cs (none_mapped (outside needs) cs e)))

  -- and nothing where there is none
  none_from : AllByRecursion (NamesWithin needs 64) cs → first_outside needs cs ≡ None
  none_from within = by_case (first_outside needs cs) refl
    where
      by_case : (o : Option ℕ) → first_outside needs cs ≡ o → o ≡ None
      by_case None e = refl
      by_case (Some w) e = absurd (not_none w (first_is needs cs w e) within)

pub found_is_first_outside : FoundIsFirstOutside
found_is_first_outside needs v cs = (first_is needs cs v, first_from needs cs v)

pub none_is_within : NoneIsWithin
none_is_within needs cs = (λ e. none_within needs cs (none_mapped (outside needs) cs e), none_from needs cs)
