-- The least choice of the table that a command comes to is the best of its function.
use Rattle.std.proofs.Common.{◌≡◌, ℕ, ◌+◌, ◌*◌, ◌^◌, ◌≤◌, List, [], ◌∷◌, map, Option, Some, None, Ok, Err, Result, inl, inr, refl, sym, arith}
use Rattle.std.specs.Prelude.{IsTrue, option_map, sum}
use Rattle.std.specs.List.{AllByRecursion, AllZip}
use Rattle.std.specs.Option.{option_or}
use Rattle.rely_num.specs.Bounds.{S}
use Rattle.rely_num.specs.Products.{product}
use Rattle.rely_num.specs.Sets.{is_within}
use Rattle.rely_num.specs.Texts.{Bytes}
use Rattle.rely_num.specs.declared.conj.Conj.{Conj}
use Rattle.rely_num.specs.declared.span.Span.{Span}
use Rattle.rely_hard.specs.declared.hardware.Hardware.{Hardware}
use Rattle.rely_kernel.specs.declared.kernel.Claim.{Claim}
use Rattle.rely_kernel.specs.declared.kernel.Kernel.{Kernel}
use Rattle.rely_kernel.specs.declared.setting.Store.{Store}
use Rattle.rely_kernel.specs.Choice.{setting_of}
use Rattle.rely_kernel.specs.Labels.{labels_of}
use Rattle.rely_kernel.specs.Paths.{paths_of}
use Rattle.rely_kernel.specs.Rates.{own, rates}
use Rattle.rely_kernel.specs.Sound.{Suffices}
use Rattle.rely_kernel.specs.Valid.{IsValid}
use Rattle.rely_predicate.specs.Predicates.{Conjuncts}
use Rattle.rely_predicate.specs.Top.{top}
use Rattle.rely_precond.specs.Walk.{Limit}
use Rattle.rely_verdict.specs.Judged.{first_outside}
use Rattle.rely_verdict.specs.Soundness.{ReachedAccepted}
use Rattle.rely_verdict.specs.declared.verdict.Verdict.{Verdict}
use Rattle.rely_verdict.specs.declared.verdict.Verdict.TheVariants as verdict
use Rattle.rely_verdict.proofs.AcceptedLaw.{met_by_products}
use Rattle.rely_verdict.proofs.AllAccepted.{reached_accepted}
use Rattle.chisel_cert.specs.declared.fault.CertFault.{CertFault}
use Rattle.chisel_cert.specs.declared.fault.CertFault.TheVariants as fault
use Rattle.chisel_cert.specs.Reading.{certificate_at}
use Rattle.chisel_cert.specs.Tree.{Certificate}
use Rattle.chisel_cert.proofs.Sound.{valid_least}
use Rattle.chisel_claims.specs.Needs.{first_limit, first_needs, needs_or}
use Rattle.chisel_claims.specs.Verdicts.{AllAccepted, Called, OneFails, callees_of}
use Rattle.chisel_claims.proofs.Holding.{callees_accepted, fails_unaccepted}
use Rattle.chisel_lines.specs.Refusals.{limit_refusal}
use Rattle.chisel_lines.specs.declared.answer.Answer.TheVariants.{Text, Refused}
use Rattle.chisel_lines.specs.declared.status.Grade.TheVariants.{Good}
use Rattle.chisel_problem.specs.Least.{IsLeastOf, NamesNeedsAlone}
use Rattle.chisel_problem.proofs.Bounds.{budgets_keep_claims, main_valid}
use Rattle.chisel_problem.proofs.LeastLaws.{least_of_table}
use Rattle.chisel_source.specs.declared.ready.Ready.{Ready}
use Rattle.chisel_table.specs.declared.table.Table.{Table}
use Rattle.chisel_table.specs.Least.{IsLeast}
use Rattle.chisel_optimise.specs.declared.certified.Asked.TheVariants as asked
use Rattle.chisel_optimise.specs.Lines.{yes}
use Rattle.chisel_optimise.specs.Answers.{behind_text}
use Rattle.chisel_optimise.specs.Claims.{CalleesStand, behind_callees, claims_answer, conjuncts_of, early_answer, grade_of, needs_answer}
use Rattle.chisel_optimise.specs.Promises.{CheckedIsBest, ClaimsHoldUnder, IsBestOf, PrintedIsBest}
use Rattle.chisel_optimise.specs.Sound.{IsSound}
use Rattle.chisel_optimise.specs.Tables.{ComesTo, Ends, predicates_of}
use Rattle.chisel_optimise.proofs.Halting.{ready_for_table}

-- ---- the functions that are called

-- where nothing ends the command early, the claims in use of all of them are accepted
reached : (r : Ready) → early_answer r ≡ None → ReachedAccepted r.hardware r.linked
reached r on = go (callees_of r.hardware r.linked.inner) refl on
  where
    go : (x : Result Called (Limit × Span)) → callees_of r.hardware r.linked.inner ≡ x → behind_callees r x ≡ None → ReachedAccepted r.hardware r.linked
    go (Ok (AllAccepted js)) e none = callees_accepted r.hardware r.linked js e
    go (Ok (OneFails j)) e none = absurd (cc)
    go (Err limit) e none = absurd (cc)

-- and the claims end it neither
claims_end_not : (r : Ready) → early_answer r ≡ None → claims_answer r.linked.kernel ≡ None
claims_end_not r on = go (callees_of r.hardware r.linked.inner) on
  where
    go : (x : Result Called (Limit × Span)) → behind_callees r x ≡ None → claims_answer r.linked.kernel ≡ None
    go (Ok (AllAccepted js)) none = none
    go (Ok (OneFails j)) none = absurd (cc)
    go (Err limit) none = absurd (cc)

-- and neither does the walk of one of them
callees_stand : (r : Ready) → early_answer r ≡ None → CalleesStand r
callees_stand r on = go (callees_of r.hardware r.linked.inner) refl on
  where
    go : (x : Result Called (Limit × Span)) → callees_of r.hardware r.linked.inner ≡ x → behind_callees r x ≡ None → CalleesStand r
    go (Ok (AllAccepted js)) e none = (js, e)
    go (Ok (OneFails j)) e none = absurd (cc)
    go (Err limit) e none = absurd (cc)

no_limit : (k : Kernel) → claims_answer k ≡ None → first_limit k k.claims ≡ None
no_limit k none = go (first_limit k k.claims) none
  where
    go : (x : Option (Limit × Span)) → option_or (option_map (λ limit. Refused (limit_refusal limit)) x) (needs_answer k (first_needs 1 k.claims (conjuncts_of k))) ≡ None → x ≡ None
    go None e = refl
    go (Some limit) e = absurd (cc)

-- ---- needs

second_none : {A : Type 0} (a b : Option A) → option_or a b ≡ None → b ≡ None
second_none None b e = e
second_none (Some x) b e = absurd (cc)

no_needs : (k : Kernel) → claims_answer k ≡ None → first_needs 1 k.claims (conjuncts_of k) ≡ None
no_needs k none =
    go (first_needs 1 k.claims (conjuncts_of k))
    (second_none (option_map (λ limit. Refused (limit_refusal limit)) (first_limit k k.claims)) (needs_answer k (first_needs 1 k.claims (conjuncts_of k))) none)
  where
    go : (n : Option (ℕ × ℕ)) → needs_answer k n ≡ None → n ≡ None
    go None e = refl
    go (Some n) e = absurd (cc)

keeps_nothing : (rs : List ℕ) (cs : List Conj) → AllByRecursion (λ c. 0 * S ^ sum c.counts ≤ product rs c.counts * S) cs
keeps_nothing rs [] = tt
keeps_nothing rs (c ∷ cs) = (omega arith, keeps_nothing rs cs)

within_by : (rs : List ℕ) (claim : Claim) (cs : List Conj) → AllByRecursion (Suffices rs claim) cs → AllByRecursion (λ c. IsTrue (is_within c.vars.bits claim.needs.bits)) cs
within_by rs claim [] h = tt
within_by rs claim (c ∷ cs) h = (h.0.0, within_by rs claim cs h.1)

-- a claim of no bound is met where no variable is found outside the needs, so all lie inside
inside_needs : (h : Hardware) (k : Kernel) (claim : Claim) → IsValid k → first_outside claim.needs.bits (top (paths_of k claim.target)) ≡ None
    → AllByRecursion (λ c. IsTrue (is_within c.vars.bits claim.needs.bits)) (top (paths_of k claim.target))
inside_needs h k claim valid none =
    within_by (rates h k (own k)) (record claim { bound = 0 }) (top (paths_of k claim.target))
    (met_by_products h k (own k) (record claim { bound = 0 }) valid none (keeps_nothing (rates h k (own k)) (top (paths_of k claim.target))))

neither : (i : ℕ) (o : Option ℕ) (rest : Option (ℕ × ℕ)) → needs_or i o rest ≡ None → (o ≡ None) × (rest ≡ None)
neither i None rest e = (refl, e)
neither i (Some var) rest e = absurd (cc)

needs_alone : (h : Hardware) (k : Kernel) → IsValid k → (i : ℕ) (claims : List Claim) → first_needs i claims (map (λ c. top (paths_of k c.target)) claims) ≡ None
    → AllByRecursion (λ claim. AllByRecursion (λ c. IsTrue (is_within c.vars.bits claim.needs.bits)) (top (paths_of k claim.target))) claims
needs_alone h k valid i [] none = tt
needs_alone h k valid i (c ∷ cs) none =
    let both = neither i (first_outside c.needs.bits (top (paths_of k c.target))) (first_needs (i + 1) cs (map (λ d. top (paths_of k d.target)) cs)) none in
    (inside_needs h k c valid both.0, needs_alone h k valid (i + 1) cs both.1)

-- what is known where nothing ends the command early
pub record Stands (r : Ready) : Type 0 where
  pub callees : CalleesStand r
  pub unlimited : first_limit r.linked.kernel r.linked.kernel.claims ≡ None
  pub alone : NamesNeedsAlone r.linked.kernel

pub stands : (r : Ready) → IsValid r.linked.kernel → early_answer r ≡ None → Stands r
stands r valid on =
    let k = r.linked.kernel in
    let claims = claims_end_not r on in
    record { callees = callees_stand r on; unlimited = no_limit k claims; alone = needs_alone r.hardware k valid 1 k.claims (no_needs k claims) }

-- ---- the best

tops_of : (k : Kernel) (cs : List Claim) → AllZip {B = Conjuncts} (λ claim p. p.conjs ≡ top (paths_of k claim.target)) cs (map (λ c. record { labels = labels_of k; conjs = top (paths_of k c.target) }) cs)
tops_of k [] = tt
tops_of k (c ∷ cs) = (refl, tops_of k cs)

pub least_is_best : (r : Ready) (starts : List Store) (t : Table) (best : Option (List ℕ)) → IsSound r starts → ComesTo r starts t → IsLeast t best → IsBestOf r starts best
least_is_best r starts t best sound comes least =
    let l = r.linked in
    let valid = main_valid l sound.ready.linked in
    let alone = (stands r valid comes.goes_on).alone in
    let of_kernel =
    (least_of_table r.hardware l (predicates_of l.kernel) starts comes.runs best (ready_for_table r starts sound) (tops_of l.kernel l.kernel.claims) comes.outcomes.each).0
    (rw (sym comes.table) least)
    in
    record { least = of_kernel; claims = hold best of_kernel alone }
  where
    hold : (b : Option (List ℕ)) → IsLeastOf r.hardware r.linked starts b → NamesNeedsAlone r.linked.kernel → ClaimsHoldUnder r b
    hold None is alone = tt
    hold (Some choice) is alone =
        budgets_keep_claims r.hardware r.linked (setting_of r.linked.kernel choice) sound.ready.hardware sound.ready.linked alone is.allowed.keeps
        (reached_accepted r.hardware r.linked (setting_of r.linked.kernel choice) sound.ready.hardware sound.ready.linked (reached r comes.goes_on))

pub printed_is_best : PrintedIsBest
printed_is_best r starts t s a sound comes p = least_is_best r starts t p.best sound comes p.finds.least

-- ---- what is good

good_is_accepted : (v : Verdict) → grade_of v ≡ Good → (lo : ℕ) × (v ≡ verdict.Accepted lo)
good_is_accepted (verdict.Needs x) e = absurd (cc)
good_is_accepted (verdict.Below hi) e = absurd (cc)
good_is_accepted (verdict.Undecided lo hi) e = absurd (cc)
good_is_accepted (verdict.Accepted lo) e = (lo, refl)

-- no answer that comes early is good
pub early_is_not_good : (r : Ready) (text : Bytes) → early_answer r ≡ Some (Text text Good) → ⊥
early_is_not_good r text is = go (callees_of r.hardware r.linked.inner) refl is
  where
    claims : (limit : Option (Limit × Span)) (n : Option (ℕ × ℕ))
        → option_or (option_map (λ x. Refused (limit_refusal x)) limit) (needs_answer r.linked.kernel n) ≡ Some (Text text Good) → ⊥
    claims (Some limit) n e = cc
    claims None (Some n) e = cc
    claims None None e = cc

    go : (x : Result Called (Limit × Span)) → callees_of r.hardware r.linked.inner ≡ x → behind_callees r x ≡ Some (Text text Good) → ⊥
    go (Err limit) e q = cc
    go (Ok (OneFails j)) e q =
        let good : grade_of j.verdict ≡ Good = cc in
        let a = good_is_accepted j.verdict good in fails_unaccepted r.hardware r.linked j a.0 e a.1
    go (Ok (AllAccepted js)) e q = claims (first_limit r.linked.kernel r.linked.kernel.claims) (first_needs 1 r.linked.kernel.claims (conjuncts_of r.linked.kernel)) q

-- nor one that comes before the table
pub end_is_not_good : (r : Ready) (starts : List Store) (text : Bytes) → Ends r starts (Text text Good) → ⊥
end_is_not_good r starts text (inl e) = early_is_not_good r text e
end_is_not_good r starts text (inr (inl e)) = let q = e.1.1 in cc
end_is_not_good r starts text (inr (inr (runs, on, outcomes, inl e))) = let q = e.1 in cc
end_is_not_good r starts text (inr (inr (runs, on, outcomes, inr e))) = let q = e.1 in cc

-- ---- what is accepted

pub checked_is_best : CheckedIsBest
checked_is_best r starts text sound h = go (certificate_at text) refl h
  where
    go : (x : Result Certificate CertFault) → certificate_at text ≡ x → behind_text r starts asked.Check x yes → (c : Certificate) × (certificate_at text ≡ Ok c) × IsBestOf r starts c.choice
    go (Err (fault.At line why)) e q = absurd (cc)
    go (Err fault.Memory) e q = absurd q
    go (Ok c) e (inl ends) = absurd (end_is_not_good r starts _ ends)
    go (Ok c) e (inr (t, comes, inl valid)) = (c, e, least_is_best r starts t c.choice sound comes (valid_least t c comes.valid valid.0))
    go (Ok c) e (inr (t, comes, inr invalid)) = absurd (let q = invalid.answer in cc)
