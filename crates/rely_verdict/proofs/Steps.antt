-- Lists as loops go over them.
use Rattle.std.proofs.Common.{◌≡◌, ℕ, zero, suc, ◌+◌, ◌<◌, ◌≤◌, Bool, true, false, List, [], ◌∷◌, length, drop, Some, None, Option, refl, sym, ap, subst, ◌∙◌, arith, inl, inr}
use Rattle.std.specs.Prelude.{slice_get, filter_map, find, fold, zip, is_some, if◌then◌else◌}
use Rattle.std.specs.List.{AllByRecursion, cons_option, range_with_len}
use Rattle.std.proofs.lemmas.Bool.{cases_lt}
use Rattle.std.proofs.lemmas.Option.{same_Some}

-- what is left from the place of an element on begins with it
pub drop_item : {X : Type 0} (xs : List X) (i : ℕ) (x : X) → slice_get xs i ≡ Some x → drop i xs ≡ x ∷ drop (i + 1) xs
drop_item [] i x e = absurd (cc)
drop_item (y ∷ xs) zero x e = let same : y ≡ x = cc in ap (λ z. z ∷ xs) same
drop_item (y ∷ xs) (suc i) x e = let next : suc i + 1 ≡ suc (i + 1) = omega arith in rw next (drop_item xs i x e)

-- past the end nothing is left
pub drop_past : {X : Type 0} (xs : List X) (i : ℕ) → length xs ≤ i → drop i xs ≡ []
drop_past [] zero h = refl
drop_past [] (suc i) h = refl
drop_past (x ∷ xs) zero h = absurd (omega (arith, h))
drop_past (x ∷ xs) (suc i) h = drop_past xs i (omega (arith, h))

-- ---- products, label by label

-- the fold over the pairs from a place on
abbrev pub rest : (ℕ → ℕ × ℕ → ℕ) → List ℕ → List ℕ → ℕ → ℕ → ℕ
rest f rs ns a i = fold f a (zip (drop i rs) (drop i ns))

-- one pair more
pub rest_more : (f : ℕ → ℕ × ℕ → ℕ) (rs ns : List ℕ) (a i r n : ℕ) → slice_get rs i ≡ Some r → slice_get ns i ≡ Some n → rest f rs ns a i ≡ rest f rs ns (f a (r, n)) (i + 1)
rest_more f rs ns a i r n at_r at_n =
    ap (λ xs. fold f a (zip xs (drop i ns))) (drop_item rs i r at_r) ∙ ap (λ ys. fold f a (zip (r ∷ drop (i + 1) rs) ys)) (drop_item ns i n at_n)

-- no pair is left
pub rest_none : (f : ℕ → ℕ × ℕ → ℕ) (rs ns : List ℕ) (a i : ℕ) → length ns ≤ i → rest f rs ns a i ≡ a
rest_none f rs ns a i past = ap (λ ys. fold f a (zip (drop i rs) ys)) (drop_past ns i past) ∙ no_pairs (drop i rs)
  where
    no_pairs : (xs : List ℕ) → fold f a (zip xs []) ≡ a
    no_pairs [] = refl
    no_pairs (x ∷ xs) = refl

-- ---- the first number that some element gives

-- here
pub first_here : {X : Type 0} (g : X → Option ℕ) (xs : List X) (i : ℕ) (x : X) → slice_get xs i ≡ Some x → is_some (g x) ≡ true → slice_get (filter_map g (drop i xs)) 0 ≡ g x
first_here g xs i x e some = ap (λ ys. slice_get (filter_map g ys) 0) (drop_item xs i x e) ∙ by_case (g x) some
  where
    by_case : (o : Option ℕ) → is_some o ≡ true → slice_get (cons_option o (filter_map g (drop (i + 1) xs))) 0 ≡ o
    by_case None h = absurd (cc)
    by_case (Some n) h = refl

-- or later
pub first_later : {X : Type 0} (g : X → Option ℕ) (xs : List X) (i : ℕ) (x : X) → slice_get xs i ≡ Some x → is_some (g x) ≡ false
    → slice_get (filter_map g (drop i xs)) 0 ≡ slice_get (filter_map g (drop (i + 1) xs)) 0
first_later g xs i x e none = ap (λ ys. slice_get (filter_map g ys) 0) (drop_item xs i x e) ∙ by_case (g x) none
  where
    by_case : (o : Option ℕ) → is_some o ≡ false → slice_get (cons_option o (filter_map g (drop (i + 1) xs))) 0 ≡ slice_get (filter_map g (drop (i + 1) xs)) 0
    by_case None h = refl
    by_case (Some n) h = absurd (cc)

-- no first means none
pub none_mapped : {X : Type 0} (g : X → Option ℕ) (cs : List X) → slice_get (filter_map g cs) 0 ≡ None → AllByRecursion (λ c. g c ≡ None) cs
none_mapped g [] e = tt
none_mapped g (c ∷ cs) e = first (g c) refl e (none_mapped g cs)
  where
    first : (o : Option ℕ) → g c ≡ o → slice_get (cons_option o (filter_map g cs)) 0 ≡ None → (slice_get (filter_map g cs) 0 ≡ None → AllByRecursion (λ d. g d ≡ None) cs)
        → (g c ≡ None) × AllByRecursion (λ d. g d ≡ None) cs
    first None is j rest = (is, rest j)
    first (Some v) is j rest = absurd (cc)

-- ---- what is found

-- none found means that none passes
pub none_found : {X : Type 0} (test : X → Bool) (xs : List X) → find test xs ≡ None → AllByRecursion (λ x. test x ≡ false) xs
none_found test [] e = tt
none_found test (x ∷ xs) e = first (test x) refl e (none_found test xs)
  where
    first : (b : Bool) → test x ≡ b → (if b then Some x else find test xs) ≡ None → (find test xs ≡ None → AllByRecursion (λ y. test y ≡ false) xs) → (test x ≡ false) × AllByRecursion (λ y. test y ≡ false) xs
    first true is j rest = absurd (cc)
    first false is j rest = (is, rest j)

-- what holds of each holds of one
pub each_at : {X : Type 0} (P : X → Type 0) (xs : List X) (i : ℕ) (x : X) → AllByRecursion P xs → slice_get xs i ≡ Some x → P x
each_at P [] i x h e = absurd (cc)
each_at P (y ∷ xs) zero x h e = subst P (same_Some y x e) h.0
each_at P (y ∷ xs) (suc i) x h e = each_at P xs i x h.1 e

-- what holds of a range holds at each of its places
pub in_range : (P : ℕ → Type 0) (a n i : ℕ) → i < n → AllByRecursion P (range_with_len a n) → P (a + i)
in_range P a zero i below h = absurd (omega (arith, below))
in_range P a (suc n) zero below h = let same : a + 0 ≡ a = omega arith in subst P (sym same) h.0
in_range P a (suc n) (suc i) below h = let same : (a + 1) + i ≡ a + suc i = omega arith in subst P same (in_range P (a + 1) n i (omega (arith, below)) h.1)

-- what is found in a range passes, and nothing before it does
pub found_in : (test : ℕ → Bool) (a n v : ℕ) → find test (range_with_len a n) ≡ Some v
    → (a ≤ v) × (v < a + n) × (test v ≡ true) × ((u : ℕ) → a ≤ u → u < v → test u ≡ false)
found_in test a zero v e = absurd (cc)
found_in test a (suc n) v e = by_test (test a) refl e (found_in test (a + 1) n v)
  where
    by_test : (b : Bool) → test a ≡ b → (if b then Some a else find test (range_with_len (a + 1) n)) ≡ Some v
        → (find test (range_with_len (a + 1) n) ≡ Some v → (a + 1 ≤ v) × (v < (a + 1) + n) × (test v ≡ true) × ((u : ℕ) → a + 1 ≤ u → u < v → test u ≡ false))
        → (a ≤ v) × (v < a + suc n) × (test v ≡ true) × ((u : ℕ) → a ≤ u → u < v → test u ≡ false)
    by_test true is e more =
        let same : a ≡ v = same_Some a v e in (
          omega (arith, same),
          omega (arith, same),
          subst (λ i. test i ≡ true) same is,
          λ u low high. absurd (omega (arith, same, low, high)),
        )
    by_test false is e more =
        let r = more e in (
          omega (arith, r.0),
          omega (arith, r.1),
          r.2,
          λ u low high. elim (cases_lt a u) [
            | inl above ↦ r.3 u (omega (arith, above)) high
            | inr below ↦ let same : a ≡ u = omega (arith, low, below) in subst (λ i. test i ≡ false) same is
          ],
        )
