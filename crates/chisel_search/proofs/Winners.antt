-- Who wins among some parts: the first of the least value.
use Rattle.std.proofs.Common.{◌≡◌, true, false, ℕ, zero, suc, ◌<◌, ◌≤◌, ◌==◌, List, [], ◌∷◌, ◌++◌, length, map, refl, sym, ap, subst, ◌∙◌, arith, Option, Some, None}
use Rattle.std.specs.Prelude.{slice_index, slice_set, int_lt}
use Rattle.std.proofs.lemmas.Int.{ints}
use Rattle.std.proofs.lemmas.Bool.{eqb-true}
use Rattle.std.proofs.lemmas.List.{get_or-map, get_or_append_left, get_or-set_same, get_or-set_other, length-map, map-append}
use lib.IntN.{ℤ, pos}
use lib.Signed.{◌≤ℤ◌, ◌<ℤ◌}
use Rattle.chisel_table.specs.Sums.{list_to}
use Rattle.chisel_table.proofs.Sums.{by_test, differ, int_below, int_above, is_int_below}
use Rattle.chisel_search.specs.declared.part.Part.{Part}
use Rattle.chisel_search.specs.declared.tournament.Entrant.{Entrant}
use Rattle.chisel_search.specs.Rules.{IsFirstLeast, value_at}
use Rattle.chisel_search.specs.Tournament.{value_of, number_at, entrant, entrant_of, better, best, gathered, IsNumber}

-- ---- the better of two

not_below : (a b : ℤ) → b ≤ℤ a → int_lt a b ≡ false
not_below a b l = by_test (int_lt a b) (λ e. absurd (let m = int_below a b e in grind (arith, ints))) (λ e. e)

better_none : (x : Option Entrant) → better x None ≡ x
better_none None = refl
better_none (Some x) = refl

takes_second : (x y : Entrant) → int_lt y.value x.value ≡ true → better (Some x) (Some y) ≡ Some y
takes_second x y e = rw e refl

takes_first : (x y : Entrant) → int_lt y.value x.value ≡ false → better (Some x) (Some y) ≡ Some x
takes_first x y e = rw e refl

pub better_assoc : (x y z : Option Entrant) → better (better x y) z ≡ better x (better y z)
better_assoc None y z = refl
better_assoc (Some x) None z = refl
better_assoc (Some x) (Some y) None = better_none (better (Some x) (Some y))
better_assoc (Some x) (Some y) (Some z) =
    by_test (int_lt y.value x.value)
    (λ e. by_test (int_lt z.value y.value)
    (λ f. let g : int_lt z.value x.value ≡ true = is_int_below z.value x.value (let a = int_below y.value x.value e in let b = int_below z.value y.value f in grind (arith, ints)) in
    ap (λ u. better u (Some z)) (takes_second x y e) ∙ takes_second y z f ∙ sym (ap (better (Some x)) (takes_second y z f) ∙ takes_second x z g))
    (λ f. ap (λ u. better u (Some z)) (takes_second x y e) ∙ takes_first y z f ∙ sym (ap (better (Some x)) (takes_first y z f) ∙ takes_second x y e)))
    (λ e. by_test (int_lt z.value y.value)
    (λ f. ap (λ u. better u (Some z)) (takes_first x y e) ∙ sym (ap (better (Some x)) (takes_second y z f)))
    (λ f. let g : int_lt z.value x.value ≡ false = not_below z.value x.value (let a = int_above y.value x.value e in let b = int_above z.value y.value f in grind (arith, ints)) in
    ap (λ u. better u (Some z)) (takes_first x y e) ∙ takes_first x z g ∙ sym (ap (better (Some x)) (takes_first y z f) ∙ takes_first x y e)))

pub best_append : (xs ys : List (Option Entrant)) → best (xs ++ ys) ≡ better (best xs) (best ys)
best_append [] ys = refl
best_append (x ∷ xs) ys = ap (better x) (best_append xs ys) ∙ sym (better_assoc x (best xs) (best ys))

pub best_push : (xs : List (Option Entrant)) (x : Option Entrant) → best (xs ++ x ∷ []) ≡ better (best xs) x
best_push xs x = best_append xs (x ∷ []) ∙ ap (better (best xs)) (better_none x)

-- ---- who wins is a part

abbrev pub number_of : Option Entrant → Option ℕ
number_of None = None
number_of (Some x) = Some x.number

-- a part with its own value, where there is one
abbrev pub IsEntrant : List ℤ → Option Entrant → Type 0
IsEntrant vs None = Unit {0}
IsEntrant vs (Some e) = e.number < length vs × entrant vs e.number ≡ e

pub is_entrant : (vs : List ℤ) (w : Option ℕ) → IsNumber (length vs) w → IsEntrant vs (entrant_of vs w)
is_entrant vs None h = tt
is_entrant vs (Some n) h = (h, refl)

better_is_entrant : (vs : List ℤ) (x y : Option Entrant) → IsEntrant vs x → IsEntrant vs y → IsEntrant vs (better x y)
better_is_entrant vs None y h k = k
better_is_entrant vs (Some x) None h k = h
better_is_entrant vs (Some x) (Some y) h k =
    by_test (int_lt y.value x.value)
    (λ e. subst (IsEntrant vs) (sym (takes_second x y e)) k)
    (λ e. subst (IsEntrant vs) (sym (takes_first x y e)) h)

pub best_is_entrant : (vs : List ℤ) (n : ℕ) (w : ℕ → Option Entrant) → ((o : ℕ) → o < n → IsEntrant vs (w o)) → IsEntrant vs (best (list_to n w))
unfolding list_to
best_is_entrant vs zero w h = tt
best_is_entrant vs (suc n) w h =
    subst (IsEntrant vs) (sym (best_push (list_to n w) (w n)))
    (better_is_entrant vs (best (list_to n w)) (w n) (best_is_entrant vs n w (λ o l. h o (omega arith))) (h n (omega arith)))

pub number_inside : (vs : List ℤ) (e : Option Entrant) → IsEntrant vs e → IsNumber (length vs) (number_of e)
number_inside vs None h = tt
number_inside vs (Some e) h = h.0

pub found_again : (vs : List ℤ) (e : Option Entrant) → IsEntrant vs e → entrant_of vs (number_of e) ≡ e
found_again vs None h = refl
found_again vs (Some e) h = ap (λ x. Some x) h.1

-- parts that are added change no entrant
pub entrant_kept : (vs new : List ℤ) (w : Option ℕ) → IsNumber (length vs) w → entrant_of (vs ++ new) w ≡ entrant_of vs w
entrant_kept vs new None h = refl
entrant_kept vs new (Some n) h = ap (λ v. Some (record { number = n; value = v })) (get_or_append_left vs new (pos 0) n h)

-- ---- numbers of parts

pub number_weaker : (a b : ℕ) (w : Option ℕ) → a ≤ b → IsNumber a w → IsNumber b w
number_weaker a b None l h = tt
number_weaker a b (Some n) l h = omega arith

pub number_one : (b n : ℕ) → n < b → (k : ℕ) → IsNumber b (number_at (Some n ∷ []) k)
number_one b n l zero = l
number_one b n l (suc k) = tt

pub number_append : (b : ℕ) (ws new : List (Option ℕ)) → ((k : ℕ) → IsNumber b (number_at ws k)) → ((k : ℕ) → IsNumber b (number_at new k)) →
    (k : ℕ) → IsNumber b (number_at (ws ++ new) k)
number_append b [] new h g k = g k
number_append b (w ∷ ws) new h g zero = h 0
number_append b (w ∷ ws) new h g (suc k) = number_append b ws new (λ j. h (suc j)) g k

pub number_listed : (b n : ℕ) (f : ℕ → ℕ) → ((o : ℕ) → o < n → f o < b) → (k : ℕ) → IsNumber b (number_at (list_to n (λ o. Some (f o))) k)
unfolding list_to
number_listed b zero f h k = tt
number_listed b (suc n) f h k =
    number_append b (list_to n (λ o. Some (f o))) (Some (f n) ∷ []) (number_listed b n f (λ o l. h o (omega arith))) (number_one b (f n) (h n (omega arith))) k

pub number_set : (b : ℕ) (ws : List (Option ℕ)) (n : ℕ) (w : Option ℕ) → n < length ws → ((k : ℕ) → IsNumber b (number_at ws k)) → IsNumber b w →
    (k : ℕ) → IsNumber b (number_at (slice_set ws n w) k)
number_set b ws n w l h g k =
    by_test (k == n)
    (λ e. let q = eqb-true k n e in subst (λ j. IsNumber b (number_at (slice_set ws n w) j)) (sym q) (subst (IsNumber b) (sym (get_or-set_same ws n w None l)) g))
    (λ e. subst (IsNumber b) (sym (get_or-set_other ws n k w None (differ k n e))) (h k))

-- ---- of some numbers

abbrev pub entrants : List ℤ → List ℕ → List (Option Entrant)
entrants vs ns = map (λ n. Some (entrant vs n)) ns

pub best_gathered : (vs : List ℤ) (n : ℕ) (f : ℕ → List ℕ) (w : ℕ → Option Entrant) → ((o : ℕ) → o < n → w o ≡ best (entrants vs (f o))) →
    best (list_to n w) ≡ best (entrants vs (gathered n f))
unfolding list_to
best_gathered vs zero f w h = refl
best_gathered vs (suc n) f w h =
    best_push (list_to n w) (w n)
    ∙ (λ i. better (best_gathered vs n f w (λ o l. h o (omega arith)) i) (h n (omega arith) i))
    ∙ sym (best_append (entrants vs (gathered n f)) (entrants vs (f n)))
    ∙ sym (ap best (map-append (λ n. Some (entrant vs n)) (gathered n f) (f n)))

-- ---- the first of the least value

pub record IsFirst (vs : List ℤ) (ns : List ℕ) (e : Entrant) (k : ℕ) : Type 0 where
  pub inside : k < length ns
  pub entrant_is : entrant vs (slice_index ns k) ≡ e
  pub least : (j : ℕ) → j < length ns → e.value ≤ℤ value_of vs (slice_index ns j)
  pub first : (j : ℕ) → j < k → e.value <ℤ value_of vs (slice_index ns j)

none_wins : (vs : List ℤ) (ns : List ℕ) → best (entrants vs ns) ≡ None → ns ≡ []
none_wins vs [] h = refl
none_wins vs (n ∷ ns) h = go (best (entrants vs ns)) h
  where
    go : (r : Option Entrant) → better (Some (entrant vs n)) r ≡ None → n ∷ ns ≡ []
    go None e = absurd (let q = e in cc)
    go (Some y) e = by_test (int_lt y.value (entrant vs n).value)
        (λ t. absurd (let q : ◌≡◌ {A = Option Entrant} (Some y) None = rw t at e in cc))
        (λ t. absurd (let q : ◌≡◌ {A = Option Entrant} (Some (entrant vs n)) None = rw t at e in cc))

pub no_winner : (vs : List ℤ) (ns : List ℕ) → best (entrants vs ns) ≡ None → length ns ≡ 0
no_winner vs ns h = ap length (none_wins vs ns h)

alone : (vs : List ℤ) (n : ℕ) (e : Entrant) → entrant vs n ≡ e → IsFirst vs (n ∷ []) e 0
alone vs n e q = record {
  inside = omega arith;
  entrant_is = q;
  least = λ j l. let z : j ≡ 0 = omega arith in let v = ap (λ x. x.value) q in rw z (grind (arith, ints));
  first = λ j l. absurd (omega arith);
}

later : (vs : List ℤ) (n : ℕ) (ns : List ℕ) (e : Entrant) (k : ℕ) → IsFirst vs ns e k → e.value <ℤ value_of vs n → IsFirst vs (n ∷ ns) e (suc k)
later vs n ns e k h l = record {
  inside = let i = h.inside in omega arith;
  entrant_is = h.entrant_is;
  least = λ j m. least_at j m;
  first = λ j m. first_at j m;
}
  where
    least_at : (j : ℕ) → j < length (n ∷ ns) → e.value ≤ℤ value_of vs (slice_index (n ∷ ns) j)
    least_at zero m = grind (arith, ints)
    least_at (suc j) m = h.least j (omega arith)

    first_at : (j : ℕ) → j < suc k → e.value <ℤ value_of vs (slice_index (n ∷ ns) j)
    first_at zero m = l
    first_at (suc j) m = h.first j (omega arith)

sooner : (vs : List ℤ) (n : ℕ) (ns : List ℕ) (e : Entrant) (k : ℕ) → IsFirst vs ns e k → value_of vs n ≤ℤ e.value → IsFirst vs (n ∷ ns) (entrant vs n) 0
sooner vs n ns e k h l = record {
  inside = omega arith;
  entrant_is = refl;
  least = λ j m. least_at j m;
  first = λ j m. absurd (omega arith);
}
  where
    least_at : (j : ℕ) → j < length (n ∷ ns) → value_of vs n ≤ℤ value_of vs (slice_index (n ∷ ns) j)
    least_at zero m = grind (arith, ints)
    least_at (suc j) m = let a = h.least j (omega arith) in grind (arith, ints)

pub first_of : (vs : List ℤ) (ns : List ℕ) (e : Entrant) → best (entrants vs ns) ≡ Some e → (k : ℕ) × IsFirst vs ns e k
first_of vs [] e h = absurd (let q = h in cc)
first_of vs (n ∷ ns) e h = go (best (entrants vs ns)) refl h (first_of vs ns)
  where
    go : (r : Option Entrant) → best (entrants vs ns) ≡ r → better (Some (entrant vs n)) r ≡ Some e
        → ((y : Entrant) → best (entrants vs ns) ≡ Some y → (k : ℕ) × IsFirst vs ns y k) → (k : ℕ) × IsFirst vs (n ∷ ns) e k
    go None q w later_ones =
        let v : entrant vs n ≡ e = cc in
        (0, subst (λ l. IsFirst vs (n ∷ l) e 0) (sym (none_wins vs ns q)) (alone vs n e v))
    go (Some y) q w later_ones =
        let i = later_ones y q in
        by_test (int_lt y.value (entrant vs n).value)
        (λ t. let v : ◌≡◌ {A = Option Entrant} (Some y) (Some e) = rw t at w in
        let u : y ≡ e = cc in
        (suc i.0, subst (λ x. IsFirst vs (n ∷ ns) x (suc i.0)) u (later vs n ns y i.0 i.1 (int_below y.value (entrant vs n).value t))))
        (λ t. let v : ◌≡◌ {A = Option Entrant} (Some (entrant vs n)) (Some e) = rw t at w in
        let u : entrant vs n ≡ e = cc in
        (0, subst (λ x. IsFirst vs (n ∷ ns) x 0) u (sooner vs n ns y i.0 i.1 (int_above y.value (entrant vs n).value t))))

-- the same told of parts with these values
pub is_first_least : (vs : List ℤ) (ns : List ℕ) (e : Entrant) (k : ℕ) (f : ℕ → Part) → ((n : ℕ) → (f n).value ≡ value_of vs n) → IsFirst vs ns e k →
    IsFirstLeast (map f ns) k
is_first_least vs ns e k f same h =
    let size = length-map ns f in
    let at : (j : ℕ) → j < length ns → value_at (map f ns) j ≡ value_of vs (slice_index ns j) =
    λ j l. get_or-map (λ p. p.value) (map f ns) j (f (slice_index ns j)) (pos 0) (omega arith)
    ∙ ap (λ p. p.value) (get_or-map f ns j 0 (f (slice_index ns j)) l)
    ∙ same (slice_index ns j) in
    let value_is : value_of vs (slice_index ns k) ≡ e.value = ap (λ x. x.value) h.entrant_is in
    record {
      inside = let i = h.inside in omega arith;
      least = λ j l. let a = h.least j (omega arith) in rw (at k h.inside, at j (omega arith), value_is) a;
      first = λ j l. let i = h.inside in let a = h.first j l in rw (at k h.inside, at j (omega arith), value_is) a;
    }
