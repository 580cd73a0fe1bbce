-- A predicate stays one when a conjunct is added or all are raised.
use Rattle.std.specs.Prelude.{◌↔◌, Result, Ok, Err, IfOk, IfErr}
use Rattle.std.proofs.Common.{◌≡◌, ℕ, ◌<◌, ◌≤◌, Bool, true, false, List, [], ◌∷◌, ◌++◌, map, length, sym, ap, subst, ◌∙◌, inl, inr, true≢false, arith}
use Rattle.std.proofs.lemmas.List.{length-map}
use Rattle.std.specs.List.{All}
use Rattle.std.proofs.lemmas.Bool.{cases_order}
use Rattle.std.proofs.lemmas.List.Elements.{All-from_recursion, recursion_from_All, All-push, All-map, All-weaker}
use Rattle.rely_num.specs.declared.conj.Conj.{Conj}
use Rattle.rely_predicate.specs.declared.predicate.PredFault.{PredFault}
use Rattle.rely_predicate.specs.declared.predicate.PredFault.TheVariants.{Wide, Memory}
use Rattle.rely_predicate.specs.Top.{top, with_one}
use Rattle.rely_predicate.specs.Shift.{raise}
use Rattle.rely_predicate.specs.Predicates.{Conjuncts, IsPredicate}
use Rattle.rely_predicate.proofs.Covered.{top_all}
use Rattle.rely_predicate.proofs.Laws.{top_again, with_one_is}
use Rattle.rely_predicate.proofs.Shifts.{top_raise}
use Rattle.rely_predicate.proofs.Raises.{length_plus}

-- ---- the answer `Wide`

abbrev pub is_wide : Result (Unit {0}) PredFault → Bool
is_wide (Ok u) = false
is_wide (Err Wide) = true
is_wide (Err Memory) = false

-- any other answer, where there is room
pub narrow : (r : Result (Unit {0}) PredFault) (n : ℕ) → is_wide r ≡ false → n ≤ 256 → (r ≡ Err Wide) ↔ (256 < n)
narrow r n e h = (λ f. absurd (true≢false (sym (ap is_wide f) ∙ e)), λ k. absurd (omega (arith, h, k)))

-- ---- one conjunct more

one_more : (labels : ℕ) (c : Conj) (old : List Conj) → length c.counts ≡ labels → IsPredicate (record { labels = labels; conjs = old }) → length (with_one c old) ≤ 256 → IsPredicate (record { labels = labels; conjs = with_one c old })
one_more labels c old e h short =
    let P : Conj → Type 0 = λ d. length d.counts ≡ labels in
    let is : with_one c old ≡ top (old ++ c ∷ []) = with_one_is c old h.own_top in
    record {
      counted = subst (All P) (sym is) (All-from_recursion P (top (old ++ c ∷ [])) (top_all P (old ++ c ∷ []) (recursion_from_All P (old ++ c ∷ []) (All-push P old c h.counted e))));
      own_top = ap top is ∙ top_again (old ++ c ∷ []) ∙ sym is;
      short = short;
    }

-- what is left by an addition, done or refused
pub added : (labels : ℕ) (c : Conj) (old new : List Conj) (r : Result (Unit {0}) PredFault) → length c.counts ≡ labels → IsPredicate (record { labels = labels; conjs = old })
    → IfOk r (λ _. new ≡ with_one c old) → IfErr r (λ _. new ≡ old) → (r ≡ Err Wide) ↔ (256 < length (with_one c old)) → IsPredicate (record { labels = labels; conjs = new })
added labels c old new (Ok u) e h ok err wide = subst (λ (cs : List Conj). IsPredicate (record { labels = labels; conjs = cs })) (sym ok) (one_more labels c old e h short)
  where
    short : length (with_one c old) ≤ 256
    short = elim (cases_order (length (with_one c old)) 256) [
      | inl a ↦ omega (arith, a)
      | inr (inl a) ↦ omega (arith, a)
      | inr (inr a) ↦ absurd (true≢false (sym (ap is_wide (wide.1 a))))
    ]
added labels c old new (Err fault) e h ok err wide = subst (λ (cs : List Conj). IsPredicate (record { labels = labels; conjs = cs })) (sym err) h

-- the same as what a caller sees
pub added_top : (p : Conjuncts) (c : Conj) (new : List Conj) (r : Result (Unit {0}) PredFault) → top p.conjs ≡ p.conjs → IfOk r (λ _. new ≡ with_one c p.conjs)
    → IfOk r (λ _. (let q : Conjuncts = record { labels = p.labels; conjs = new } in q) ≡ record { labels = p.labels; conjs = top (p.conjs ++ c ∷ []) })
added_top p c new (Ok u) own ok = λ i. record { labels = p.labels; conjs = (ok ∙ with_one_is c p.conjs own) i }
added_top p c new (Err fault) own ok = tt

pub added_wide : (p : Conjuncts) (c : Conj) (r : Result (Unit {0}) PredFault) → top p.conjs ≡ p.conjs → (r ≡ Err Wide) ↔ (256 < length (with_one c p.conjs)) → (r ≡ Err Wide) ↔ (256 < length (top (p.conjs ++ c ∷ [])))
added_wide p c r own h = subst (λ (ys : List Conj). (r ≡ Err Wide) ↔ (256 < length ys)) (with_one_is c p.conjs own) h

-- ---- all raised

pub raised : (labels : ℕ) (by : List ℕ) (cs : List Conj) → IsPredicate (record { labels = labels; conjs = cs }) → IsPredicate (record { labels = labels; conjs = map (raise by) cs })
raised labels by cs h =
    let P : Conj → Type 0 = λ d. length d.counts ≡ labels in
    record {
      counted = All-map P (raise by) cs (All-weaker P (λ d. P (raise by d)) (λ d e. length_plus by d.counts ∙ e) cs h.counted);
      own_top = top_raise by cs ∙ ap (map (raise by)) h.own_top;
      short = let e = length-map cs (raise by) in let s = h.short in omega arith;
    }
