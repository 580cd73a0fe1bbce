-- Lists of conjuncts none of whose counts reaches 2^36.
use Rattle.std.proofs.Common.{◌≡◌, ℕ, zero, suc, ◌<◌, ◌^◌, ◌||◌, Bool, true, false, List, [], ◌∷◌, ◌++◌, filter, length, get_or, set, nat_le, nat_lt, Some, None, if◌then◌else◌, refl, sym, ap, subst, ◌∙◌, true≢false, arith, tests, append-nil, append_assoc}
use Rattle.std.specs.List.{AllByRecursion, list_any}
use Rattle.rely_num.specs.declared.conj.Conj.{Conj}
use Rattle.rely_kernel.specs.Paths.{bump}
use Rattle.rely_loops.specs.Grown.{too_many}
use Rattle.rely_predicate.specs.Top.{top, with_one}
use Rattle.rely_predicate.proofs.Covered.{top_all}
use Rattle.rely_predicate.proofs.Laws.{top_again, top_append, with_one_is}
use Rattle.rely_precond.specs.Answers.{AreFew}
use Rattle.rely_precond.specs.Walk.{added, unless}
use Rattle.rely_precond.proofs.Law.{no_top}
use Rattle.rely_precond.proofs.Steps.{too_many_append}

-- ---- neither of two

neither : (a b : Bool) → (a || b) ≡ false → (a ≡ false) × (b ≡ false)
neither true b h = absurd (true≢false h)
neither false b h = (refl, h)

both : (a b : Bool) → a ≡ false → b ≡ false → (a || b) ≡ false
both true b h k = absurd (true≢false h)
both false b h k = k

-- ---- counts

pub bump_few : (i : ℕ) (ns : List ℕ) → AreFew ns → (i < length ns → get_or ns i 0 < 68719476735) → AreFew (bump i ns)
bump_few i [] h room = refl
bump_few zero (n ∷ ns) h room =
    let l : n < 68719476735 = room (omega arith) in
    both (nat_le (2 ^ 36) (suc n)) (list_any (nat_le (2 ^ 36)) ns) (small (suc n) (omega arith)) (neither (nat_le (2 ^ 36) n) (list_any (nat_le (2 ^ 36)) ns) h).1
  where
    small : (m : ℕ) → m < 68719476736 → nat_le (2 ^ 36) m ≡ false
    small m l = go (nat_le (2 ^ 36) m) refl
      where
        go : (b : Bool) → nat_le (2 ^ 36) m ≡ b → b ≡ false
        go true e = absurd (omega (arith, tests, e, l))
        go false e = refl
bump_few (suc i) (n ∷ ns) h room =
    let hs = neither (nat_le (2 ^ 36) n) (list_any (nat_le (2 ^ 36)) ns) h in
    both (nat_le (2 ^ 36) n) (list_any (nat_le (2 ^ 36)) (bump i ns)) hs.0 (bump_few i ns hs.1 (λ l. room (omega (arith, l))))

-- ---- conjuncts, one by one

abbrev pub IsFew : Conj → Type 0
IsFew c = AreFew c.counts

pub each_few : (cs : List Conj) → too_many cs ≡ false → AllByRecursion IsFew cs
each_few [] h = tt
each_few (c ∷ cs) h = let hs = neither (list_any (nat_le (2 ^ 36)) c.counts) (too_many cs) h in (hs.0, each_few cs hs.1)

pub all_few : (cs : List Conj) → AllByRecursion IsFew cs → too_many cs ≡ false
all_few [] h = refl
all_few (c ∷ cs) h = both (list_any (nat_le (2 ^ 36)) c.counts) (too_many cs) h.0 (all_few cs h.1)

pub few_append : (xs ys : List Conj) → too_many xs ≡ false → too_many ys ≡ false → too_many (xs ++ ys) ≡ false
few_append xs ys h k = too_many_append xs ys ∙ both (too_many xs) (too_many ys) h k

pub few_one : (c : Conj) → AreFew c.counts → too_many (c ∷ []) ≡ false
few_one c h = both (list_any (nat_le (2 ^ 36)) c.counts) false h refl

pub few_filter : (f : Conj → Bool) (cs : List Conj) → too_many cs ≡ false → too_many (filter f cs) ≡ false
few_filter f [] h = refl
few_filter f (c ∷ cs) h =
    let hs = neither (list_any (nat_le (2 ^ 36)) c.counts) (too_many cs) h in
    go (f c) hs.0 (few_filter f cs hs.1)
  where
    go : (b : Bool) → AreFew c.counts → too_many (filter f cs) ≡ false → too_many (if b then c ∷ filter f cs else filter f cs) ≡ false
    go true k r = both (list_any (nat_le (2 ^ 36)) c.counts) (too_many (filter f cs)) k r
    go false k r = r

-- ---- what stands of a list

pub few_top : (cs : List Conj) → too_many cs ≡ false → too_many (top cs) ≡ false
few_top cs h = all_few (top cs) (top_all IsFew cs (each_few cs h))

added_top : (p cs q : List Conj) → top p ≡ p → added p cs ≡ Some q → q ≡ top (p ++ cs)
added_top p [] q own e = let is : p ≡ q = cc in sym is ∙ sym own ∙ ap top (sym (append-nil p))
added_top p (c ∷ cs) q own e =
    let step : with_one c p ≡ top (p ++ c ∷ []) = with_one_is c p own in
    let again : top (with_one c p) ≡ with_one c p = ap top step ∙ top_again (p ++ c ∷ []) ∙ sym step in
    go (nat_lt 256 (length (with_one c p))) e (λ found.
    added_top (with_one c p) cs q again found ∙ ap (λ r. top (r ++ cs)) step ∙ top_append (p ++ c ∷ []) cs ∙ ap top (append_assoc p (c ∷ []) cs))
  where
    go : (b : Bool) → unless b (λ r. added r cs) (with_one c p) ≡ Some q → (added (with_one c p) cs ≡ Some q → q ≡ top (p ++ c ∷ cs)) → q ≡ top (p ++ c ∷ cs)
    go true found rest = absurd (let n : None ≡ Some q = found in cc)
    go false found rest = rest found

pub few_added_is : (cs p : List Conj) → too_many cs ≡ false → added [] cs ≡ Some p → too_many p ≡ false
few_added_is cs p h found = subst (λ (q : List Conj). too_many q ≡ false) (sym (added_top [] cs p no_top found)) (few_top cs h)

-- ---- a place of a list that is overwritten

pub few_set : (cs : List Conj) (i : ℕ) (next : Conj) → too_many cs ≡ false → AreFew next.counts → too_many (set cs i next) ≡ false
few_set [] i next h k = refl
few_set (c ∷ cs) zero next h k = both (list_any (nat_le (2 ^ 36)) next.counts) (too_many cs) k (neither (list_any (nat_le (2 ^ 36)) c.counts) (too_many cs) h).1
few_set (c ∷ cs) (suc i) next h k =
    let hs = neither (list_any (nat_le (2 ^ 36)) c.counts) (too_many cs) h in
    both (list_any (nat_le (2 ^ 36)) c.counts) (too_many (set cs i next)) hs.0 (few_set cs i next hs.1 k)
