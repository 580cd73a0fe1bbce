-- What a new list comes to, as code finds it.
use Rattle.std.proofs.Common.{◌≡◌, ℕ, ◌+◌, ◌<◌, ◌≤◌, Bool, true, false, List, [], ◌∷◌, ◌++◌, map, length, nat_lt, Some, None, Result, Ok, Err, IsTrue, refl, sym, ap, subst, ◌∙◌, inl, inr, arith, append-nil, append_assoc}
use Rattle.std.specs.List.{All}
use Rattle.std.specs.Result.{IfErr}
use Rattle.std.proofs.lemmas.Bool.{cond-true, cond-false, cases_order, ltb-true, lt-ltb}
use Rattle.rely_num.specs.declared.conj.Conj.{Conj}
use Rattle.rely_num.specs.declared.span.Span.{Span}
use Rattle.rely_predicate.specs.Top.{top, with_one}
use Rattle.rely_predicate.specs.Predicates.{IsPredicate}
use Rattle.rely_predicate.specs.Shift.{raise, times}
use Rattle.rely_predicate.proofs.Laws.{top_again, top_append, top_one, with_one_is}
use Rattle.rely_loops.specs.Grown.{too_many}
use Rattle.rely_precond.specs.declared.fault.PreFault.{PreFault}
use Rattle.rely_precond.specs.declared.fault.PreFault.TheVariants as fault
use Rattle.rely_precond.specs.Answers.{IsStop}
use Rattle.rely_precond.proofs.Law.{no_top}
use Rattle.rely_precond.proofs.Limits.{with_one_length}
use Rattle.rely_precond.specs.Walk.{Walked, Stops, Wide, Count, added, unless, worked, stand, multiply}

pub not_true : (b : Bool) → (IsTrue b → ⊥) → b ≡ false
not_true true h = absurd (h refl)
not_true false h = refl

-- ---- a list

pub stand_goes : (at : Span) (ps : List Conj) (work : ℕ) → too_many ps ≡ false → stand at ps work ≡ worked at (added [] ps) work
stand_goes at ps work h = cond-false (too_many ps) (Stops Count at) (worked at (added [] ps) work) h

pub stand_full : (at : Span) (ps : List Conj) (work : ℕ) → too_many ps ≡ true → stand at ps work ≡ Stops Count at
stand_full at ps work h = cond-true (too_many ps) (Stops Count at) (worked at (added [] ps) work) h

pub multiply_goes : (at : Span) (n : ℕ) (by : List ℕ) (p : List Conj) (work : ℕ) (q : List Conj) → q ≡ map (raise (times n by)) p → (IsTrue (too_many (map (raise (times n by)) p)) → ⊥)
    → worked at (Some q) work ≡ multiply at n by p work
multiply_goes at n by p work q is h =
    ap (λ r. worked at (Some r) work) is
    ∙ sym (cond-false (too_many (map (raise (times n by)) p)) (Stops Count at) (worked at (Some (map (raise (times n by)) p)) work) (not_true (too_many (map (raise (times n by)) p)) h))

-- ---- one conjunct more

module _ (p : List Conj) (c : Conj) (rest : List Conj) (own : top p ≡ p) where
  -- the list that code finds
  next_is : with_one c p ≡ top (p ++ c ∷ [])
  next_is = with_one_is c p own

  pub added_goes : length (top (p ++ c ∷ [])) ≤ 256 → added (top (p ++ c ∷ [])) rest ≡ added p (c ∷ rest)
  added_goes few =
      sym (ap (λ b. unless b (λ r. added r rest) (with_one c p)) (not_true (nat_lt 256 (length (with_one c p))) (λ t. let l = ltb-true 256 (length (with_one c p)) t in let e = ap length next_is in absurd (omega arith)))
      ∙ ap (λ q. added q rest) next_is)

  pub added_stops : 256 < length (top (p ++ c ∷ [])) → added p (c ∷ rest) ≡ None
  added_stops many =
      let l : 256 < length (with_one c p) = subst (λ (q : List Conj). 256 < length q) (sym next_is) many in
      ap (λ b. unless b (λ r. added r rest) (with_one c p)) (lt-ltb 256 (length (with_one c p)) l)

pub few_from : (n : ℕ) → (256 < n → ⊥) → n ≤ 256
few_from n h = elim (cases_order n 256) [
  | inl e ↦ omega arith
  | inr (inl l) ↦ omega arith
  | inr (inr l) ↦ absurd (h l)
]

-- what an answer says, where it refuses
pub if_err : {A E : Type 0} → (r : Result A E) (f : E) (P : E → Type 0) → r ≡ Err f → P f → IfErr r P
if_err r f P e h = subst (λ (x : Result _ _). IfErr x P) (sym e) h

-- ---- lists that are short enough

added_few : (p cs : List Conj) → top p ≡ p → length p + length cs ≤ 256 → added p cs ≡ Some (top (p ++ cs))
added_few p [] own few = ap Some (sym own ∙ ap top (sym (append-nil p)))
added_few p (c ∷ cs) own few =
    let step : with_one c p ≡ top (p ++ c ∷ []) = with_one_is c p own in
    let long = with_one_length c p in
    let again : top (with_one c p) ≡ with_one c p = ap top step ∙ top_again (p ++ c ∷ []) ∙ sym step in
    ap (λ b. unless b (λ r. added r cs) (with_one c p)) (not_true (nat_lt 256 (length (with_one c p))) (λ t. let l = ltb-true 256 (length (with_one c p)) t in absurd (omega arith)))
    ∙ added_few (with_one c p) cs again (omega arith) ∙ ap Some (ap (λ q. top (q ++ cs)) step ∙ top_append (p ++ c ∷ []) cs ∙ ap top (append_assoc p (c ∷ []) cs))

pub few_added : (cs : List Conj) → length cs ≤ 256 → added [] cs ≡ Some (top cs)
few_added cs few = added_few [] cs no_top (omega arith)

pub few_found : (cs p : List Conj) → length cs ≤ 256 → added [] cs ≡ Some p → p ≡ top cs
few_found cs p few found = let e : Some p ≡ Some (top cs) = sym found ∙ few_added cs few in cc

pub few_wide : (cs : List Conj) → length cs ≤ 256 → added [] cs ≡ None → ⊥
few_wide cs few none = let e : None ≡ Some (top cs) = sym none ∙ few_added cs few in cc

-- ---- a list of one conjunct at most

-- it is its own top
short_own : (cs : List Conj) → length cs ≤ 1 → top cs ≡ cs
short_own [] h = no_top
short_own (c ∷ []) h = top_one c
short_own (c ∷ d ∷ cs) h = absurd (omega (arith, h))

-- and so a predicate
pub short_is : (labels : ℕ) (cs : List Conj) → length cs ≤ 1 → All (λ c. length c.counts ≡ labels) cs → IsPredicate (record { labels = labels; conjs = cs })
short_is labels cs h counted = record { counted = counted; own_top = short_own cs h; short = omega (arith, h) }

-- of the same conjuncts
pub short_added : (cs : List Conj) → length cs ≤ 1 → added [] cs ≡ Some cs
short_added cs h = few_added cs (omega (arith, h)) ∙ ap Some (short_own cs h)

-- ---- a list that stands

pub stand_some : (at : Span) (ps p : List Conj) (work : ℕ) → too_many ps ≡ false → added [] ps ≡ Some p → stand at ps work ≡ worked at (Some p) work
stand_some at ps p work h found = stand_goes at ps work h ∙ ap (λ o. worked at o work) found

pub stand_wide : (at : Span) (ps : List Conj) (work : ℕ) → too_many ps ≡ false → added [] ps ≡ None → stand at ps work ≡ Stops Wide at
stand_wide at ps work h none = stand_goes at ps work h ∙ ap (λ o. worked at o work) none

pub stand_own : (at : Span) (ps : List Conj) (work : ℕ) → too_many ps ≡ false → top ps ≡ ps → length ps ≤ 256 → stand at ps work ≡ worked at (Some ps) work
stand_own at ps work h own few = stand_some at ps ps work h (few_added ps few ∙ ap Some own)

pub ok_err : {A E : Type 0} → (x : A) (f : E) → Ok x ≡ Err f → ⊥
ok_err x f e = cc

-- an answer that was passed on
pub stop_err : {A : Type 0} → (r : Result A PreFault) (x y : PreFault) (w : Walked) → r ≡ Err x → x ≡ y → IsStop w y → IfErr r (λ f. IsStop w f)
stop_err r x y w e s h = if_err r x (λ f. IsStop w f) e (subst (IsStop w) (sym s) h)

pub memory_stops : (w : Walked) (f : PreFault) → f ≡ fault.Memory → IsStop w f
memory_stops w f e = subst (IsStop w) (sym e) tt
