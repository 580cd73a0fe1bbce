-- The vector of two predicates, and counts that stay small.
use Rattle.std.specs.Prelude.{◌↔◌, Option, nat_le}
use Rattle.std.specs.List.{All, AllByRecursion, list_any}
use Rattle.std.proofs.Common.{◌++◌, ◌≡◌, ℕ, suc, ◌^◌, ◌<◌, Bool, true, false, List, [], ◌∷◌, map, length, get_or, Some, None, refl, sym, ap, subst, ◌∙◌, arith, rules, tests}
use Rattle.std.proofs.lemmas.Bool.{or_parts, cond-true, cond-false}
use Rattle.std.proofs.lemmas.List.Elements.{All-from_recursion}
use lib.Pointwise.{pointwise}
use Rattle.rely_num.specs.declared.conj.Conj.{Conj}
use Rattle.rely_predicate.specs.Predicates.{Conjuncts, IsPredicate, StaysBelow}
use Rattle.rely_predicate.specs.Shift.{plus, minus, times, raise, shift}
use Rattle.rely_predicate.specs.Top.{same, top, with_one}
use Rattle.rely_predicate.proofs.Laws.{with_one_is}
use Rattle.rely_predicate.proofs.Shifts.{shift_is, shift_finds}
use Rattle.rely_predicate.proofs.Tops.{either_if}
use Rattle.rely_loops.specs.Grown.{IsGrown, too_many}

-- ---- the vector

length_minus : (ms ns : List ℕ) → length ns ≡ length ms → length (minus ms ns) ≡ length ms
length_minus [] ns h = refl
length_minus (m ∷ ms) [] h = absurd (omega (arith, h))
length_minus (m ∷ ms) (n ∷ ns) h = ap suc (length_minus ms ns (omega (arith, h)))

-- whether each conjunct grows by the vector
abbrev pub all_grow : List ℕ → List Conj → List Conj → Bool
all_grow by ps qs = pointwise (λ a b. same (raise by a) b) ps qs

-- the vector between the first two
abbrev pub between : List Conj → List Conj → Conj → Conj → List ℕ
between ps qs a b = minus (get_or qs 0 b).counts (get_or ps 0 a).counts

pub shift_yes : (ps qs : List Conj) (a b : Conj) → 0 < length ps → 0 < length qs → all_grow (between ps qs a b) ps qs ≡ true → shift ps qs ≡ Some (between ps qs a b)
shift_yes [] qs a b h k e = absurd (omega (arith, h))
shift_yes (p ∷ ps) [] a b h k e = absurd (omega (arith, k))
shift_yes (p ∷ ps) (q ∷ qs) a b h k e = cond-true (all_grow (minus q.counts p.counts) (p ∷ ps) (q ∷ qs)) (Some (minus q.counts p.counts)) None e

pub shift_no : (ps qs : List Conj) (a b : Conj) → 0 < length ps → 0 < length qs → all_grow (between ps qs a b) ps qs ≡ false → shift ps qs ≡ None
shift_no [] qs a b h k e = absurd (omega (arith, h))
shift_no (p ∷ ps) [] a b h k e = absurd (omega (arith, k))
shift_no (p ∷ ps) (q ∷ qs) a b h k e = cond-false (all_grow (minus q.counts p.counts) (p ∷ ps) (q ∷ qs)) (Some (minus q.counts p.counts)) None e

pub length_between : (p q : Conjuncts) (a b : Conj) → IsPredicate p → IsPredicate q → p.labels ≡ q.labels → 0 < length p.conjs → 0 < length q.conjs → length (between p.conjs q.conjs a b) ≡ q.labels
length_between p q a b v w l h k =
    let e : length (get_or q.conjs 0 b).counts ≡ q.labels = w.counted 0 b k in
    length_minus (get_or q.conjs 0 b).counts (get_or p.conjs 0 a).counts (v.counted 0 a h ∙ l ∙ sym e) ∙ e

-- what is found is the vector between the first two
found_between : (p q : Conj) (ps qs : List Conj) (by : List ℕ) → shift (p ∷ ps) (q ∷ qs) ≡ Some by → by ≡ minus q.counts p.counts
found_between p q ps qs by =
    let v : List ℕ = minus q.counts p.counts in
    either_if (λ (o : Option (List ℕ)). o ≡ Some by → by ≡ v) (all_grow v (p ∷ ps) (q ∷ qs)) (Some v) None (λ e f. cc) (λ e f. cc)

is_grown : (labels : ℕ) (ps qs : List Conj) (by : List ℕ) → IsPredicate (record { labels = labels; conjs = ps }) → IsPredicate (record { labels = labels; conjs = qs }) → 0 < length ps → 0 < length qs
    → shift ps qs ≡ Some by → IsGrown (record { labels = labels; conjs = ps }) (record { labels = labels; conjs = qs }) by
is_grown labels [] qs by v w h k e = absurd (omega (arith, h))
is_grown labels (p ∷ ps) [] by v w h k e = absurd (omega (arith, k))
is_grown labels (p ∷ ps) (q ∷ qs) by v w h k e = record {
  labelled = ap length (found_between p q ps qs by e) ∙ length_minus q.counts p.counts (v.counted 0 p h ∙ sym (w.counted 0 q k)) ∙ w.counted 0 q k;
  grown = sym (shift_is (p ∷ ps) (q ∷ qs) by e);
}

is_found : (labels : ℕ) (ps qs : List Conj) (by : List ℕ) → IsPredicate (record { labels = labels; conjs = ps }) → 0 < length ps
    → IsGrown (record { labels = labels; conjs = ps }) (record { labels = labels; conjs = qs }) by → shift ps qs ≡ Some by
is_found labels [] qs by v h g = absurd (omega (arith, h))
is_found labels (p ∷ ps) qs by v h g =
    subst (λ (rs : List Conj). shift (p ∷ ps) rs ≡ Some by) (sym g.grown) (shift_finds by p ps (g.labelled ∙ sym (v.counted 0 p h)))

-- a vector is found exactly where the later predicate is grown by it
pub found_exactly : (before after : Conjuncts) (found : Option (List ℕ)) → IsPredicate before → IsPredicate after → before.labels ≡ after.labels
    → 0 < length before.conjs → 0 < length after.conjs → found ≡ shift before.conjs after.conjs → (by : List ℕ) → (found ≡ Some by) ↔ IsGrown before after by
found_exactly before after found v w l h k e by = (
  (λ f. record {
    labelled = (go f).labelled;
    grown = (go f).grown;
  }),
  λ g. e ∙ is_found before.labels before.conjs after.conjs by v h (record { labelled = g.labelled; grown = g.grown }),
)
  where
    go : found ≡ Some by → IsGrown before (record { labels = before.labels; conjs = after.conjs }) by
    go f = is_grown before.labels before.conjs after.conjs by v (subst (λ (n : ℕ). IsPredicate (record { labels = n; conjs = after.conjs })) (sym l) w) h k (sym e ∙ f)

-- ---- counts that stay small

small : (ks : List ℕ) → list_any (nat_le (2 ^ 36)) ks ≡ false → AllByRecursion (λ k. k < 2 ^ 36) ks
small [] e = tt
small (k ∷ ks) e =
    let (a, b) = or_parts (nat_le (2 ^ 36) k) (list_any (nat_le (2 ^ 36)) ks) e in
    (search (rules, tests), small ks b)

all_small : (n : ℕ) (by : List ℕ) (cs : List Conj) → too_many (map (raise (times n by)) cs) ≡ false → AllByRecursion (StaysBelow by n) cs
all_small n by [] e = tt
all_small n by (c ∷ cs) e =
    let ks : List ℕ = plus (times n by) c.counts in
    let (a, b) = or_parts (list_any (nat_le (2 ^ 36)) ks) (too_many (map (raise (times n by)) cs)) e in
    (All-from_recursion (λ k. k < 2 ^ 36) ks (small ks a), all_small n by cs b)

-- where no count is too large all stay below
pub stay_below : (n : ℕ) (by : List ℕ) (cs : List Conj) → too_many (map (raise (times n by)) cs) ≡ false → All (StaysBelow by n) cs
stay_below n by cs e = All-from_recursion (StaysBelow by n) cs (all_small n by cs e)

-- ---- one conjunct

pub one_alone : (c : Conj) → length (top ([] ++ c ∷ [])) ≡ 1
unfolding top with_one
one_alone c = sym (ap length (with_one_is c [] refl))
