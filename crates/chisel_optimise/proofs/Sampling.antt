-- The runs from the samples, one after the other.
use Rattle.std.proofs.Common.{◌≡◌, ℕ, zero, suc, ◌+◌, ◌-◌, ◌<◌, ◌≤◌, List, [], ◌∷◌, ◌++◌, take, get_or, length, refl, sym, ap, ◌∙◌, subst, arith}
use Rattle.std.specs.Prelude.{sum_by}
use Rattle.std.specs.List.{All, AllByRecursion, AllZip}
use Rattle.std.proofs.lemmas.List.{take_more}
use Rattle.std.proofs.lemmas.List.Elements.{recursion_from_All}
use Rattle.std.proofs.lemmas.List.Sums.{sum_by-append, sum_by-cons}
use Rattle.rely_kernel.specs.declared.kernel.Linked.{Linked}
use Rattle.rely_kernel.specs.declared.setting.Store.{Store}
use Rattle.rely_kernel.specs.Bound.{IsStart}
use Rattle.rely_kernel.specs.Valid.{IsLinked}
use Rattle.rely_machine.specs.declared.outcome.Outcome.{Outcome}
use Rattle.rely_machine.specs.Run.{IsOutcome, ReachesLimit, steps_limit}
use Rattle.rely_machine.proofs.Determined.{has_outcome, reaches_by_outcome}
use Rattle.chisel_optimise.specs.Tables.{AreOutcomes, TakeTooLong}

-- some samples were run, and so many steps are left
pub record Sampled (l : Linked) (starts : List Store) (runs : List Outcome) (left : ℕ) : Type 0 where
  pub each : AllZip (IsOutcome l) starts runs
  pub total : sum_by (λ o. o.steps) runs + left ≡ steps_limit
  pub some : 0 < left

zip_push : {A B : Type 0} (R : A → B → Type 0) (xs : List A) (ys : List B) (x : A) (y : B) → AllZip R xs ys → R x y → AllZip R (xs ++ x ∷ []) (ys ++ y ∷ [])
zip_push R [] [] x y h r = (r, tt)
zip_push R [] (b ∷ ys) x y h r = absurd h
zip_push R (a ∷ xs) [] x y h r = absurd h
zip_push R (a ∷ xs) (b ∷ ys) x y h r = (h.0, zip_push R xs ys x y h.1 r)

total_pushed : (runs : List Outcome) (o : Outcome) → sum_by (λ x. x.steps) (runs ++ o ∷ []) ≡ sum_by (λ x. x.steps) runs + o.steps
total_pushed runs o =
    let a = sum_by-append (λ x. x.steps) runs (o ∷ []) in let b = sum_by-cons (λ x. x.steps) o [] in omega arith

pub none_sampled : (l : Linked) → Sampled l [] [] 67108864
none_sampled l = record { each = tt; total = refl; some = omega arith }

-- one more
pub one_sampled : (l : Linked) (starts : List Store) (i : ℕ) (start : Store) (runs : List Outcome) (left : ℕ) (o : Outcome) → i < length starts → start ≡ get_or starts i start
    → Sampled l (take i starts) runs left → IsOutcome l start o → o.steps < left → Sampled l (take (i + 1) starts) (runs ++ o ∷ []) (left - o.steps)
one_sampled l starts i start runs left o inside is h outcome below = record {
  each =
      let list : take (i + 1) starts ≡ take i starts ++ start ∷ [] = take_more starts i start inside ∙ ap (λ x. take i starts ++ x ∷ []) (sym is) in
      subst (λ ss. AllZip (IsOutcome l) ss (runs ++ o ∷ [])) (sym list) (zip_push (IsOutcome l) (take i starts) runs start o h.each outcome);
  total = let a = total_pushed runs o in let b = h.total in omega arith;
  some = omega arith;
}

-- all
pub all_sampled : (l : Linked) (starts : List Store) (runs : List Outcome) (left : ℕ) → Sampled l starts runs left → AreOutcomes l starts runs
all_sampled l starts runs left h = record { each = h.each; short = let a = h.total in let b = h.some in omega arith }

-- ---- the limit

record Outcomes (l : Linked) (starts : List Store) (least : ℕ) : Type 0 where
  runs : List Outcome
  each : AllZip (IsOutcome l) starts runs
  many : least ≤ sum_by (λ o. o.steps) runs

have_outcomes : (l : Linked) (starts : List Store) → IsLinked l → AllByRecursion (IsStart l.kernel) starts → Outcomes l starts 0
have_outcomes l [] linked are = record { runs = []; each = tt; many = omega arith }
have_outcomes l (s ∷ starts) linked are =
    let o = has_outcome l s linked are.0 in
    let rest = have_outcomes l starts linked are.1 in
    record { runs = o.0 ∷ rest.runs; each = (o.1, rest.each); many = omega arith }

-- the steps of the samples so far, and the limit that the next one reaches, are steps of all samples together
reach_together : (l : Linked) (starts : List Store) (i : ℕ) (start : Store) (runs : List Outcome) (left : ℕ) → IsLinked l → AllByRecursion (IsStart l.kernel) starts → i < length starts
    → start ≡ get_or starts i start → AllZip (IsOutcome l) (take i starts) runs → ReachesLimit l start left → Outcomes l starts (sum_by (λ o. o.steps) runs + left)
reach_together l [] i start runs left linked are inside is each reaches = absurd (omega arith)
reach_together l (s ∷ starts) zero start [] left linked are inside is each reaches =
    let o = has_outcome l s linked are.0 in
    let rest = have_outcomes l starts linked are.1 in
    let long : left ≤ o.0.steps = (reaches_by_outcome l s o.0 left o.1).0 (subst (λ x. ReachesLimit l x left) is reaches) in
    record { runs = o.0 ∷ rest.runs; each = (o.1, rest.each); many = let e = sum_by-cons (λ x. x.steps) o.0 rest.runs in omega arith }
reach_together l (s ∷ starts) zero start (r ∷ runs) left linked are inside is each reaches = absurd each
reach_together l (s ∷ starts) (suc i) start [] left linked are inside is each reaches = absurd each
reach_together l (s ∷ starts) (suc i) start (r ∷ runs) left linked are inside is each reaches =
    let rest = reach_together l starts i start runs left linked are.1 (omega arith) is each.1 reaches in
    let a = sum_by-cons (λ x. x.steps) r runs in
    let b = sum_by-cons (λ x. x.steps) r rest.runs in
    let m = rest.many in
    record { runs = r ∷ rest.runs; each = (each.0, rest.each); many = omega arith }

pub too_long_together : (l : Linked) (starts : List Store) (i : ℕ) (start : Store) (runs : List Outcome) (left : ℕ) → IsLinked l → All (IsStart l.kernel) starts → i < length starts
    → start ≡ get_or starts i start → Sampled l (take i starts) runs left → ReachesLimit l start left → TakeTooLong l starts
too_long_together l starts i start runs left linked are inside is h reaches =
    let all = reach_together l starts i start runs left linked (recursion_from_All (IsStart l.kernel) starts are) inside is h.each reaches in
    record { runs = all.runs; each = all.each; long = let a = h.total in let b = all.many in omega arith }
