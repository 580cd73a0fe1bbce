-- Which answer ends a command before any sample is run.
use Rattle.std.proofs.Common.{◌≡◌, ℕ, List, [], ◌∷◌, map, Option, Some, None, inl, inr, refl, ap, ◌∙◌, sym, subst}
use Rattle.std.specs.Prelude.{option_map}
use Rattle.std.specs.Option.{option_or}
use Rattle.rely_num.specs.declared.conj.Conj.{Conj}
use Rattle.rely_num.specs.declared.span.Span.{Span}
use Rattle.rely_kernel.specs.declared.kernel.Claim.{Claim}
use Rattle.rely_kernel.specs.declared.kernel.Kernel.{Kernel}
use Rattle.rely_predicate.specs.Predicates.{Conjuncts}
use Rattle.rely_precond.specs.Walk.{Limit, Wide, Count, Work}
use Rattle.rely_precond.specs.declared.fault.PreFault.{PreFault}
use Rattle.chisel_claims.specs.Needs.{IsFirstLimit, first_limit, first_needs}
use Rattle.chisel_claims.specs.Verdicts.{AllAccepted, Finds, IsLimited, JudgedClaim, OneFails, callees_of, fault_at}
use Rattle.chisel_lines.specs.Refusals.{limit_refusal}
use Rattle.chisel_lines.specs.declared.answer.Answer.TheVariants.{Text, Refused}
use Rattle.chisel_lines.specs.declared.status.Grade.TheVariants.{Failing}
use Rattle.chisel_source.specs.declared.ready.Ready.{Ready}
use Rattle.chisel_optimise.specs.declared.halt.Halt.TheVariants as halt
use Rattle.chisel_optimise.specs.Claims.{CalleesStand, EndsEarly, behind_callees, callee_answer, claims_answer, conjuncts_of, early_answer, needs_answer, needs_line}
use Rattle.chisel_optimise.specs.Halts.{HaltsBy, walk_halt}
use Rattle.chisel_optimise.specs.Tables.{predicates_of}

-- ---- limits

limit_halts : (limit : Limit × Span) → walk_halt (fault_at limit) ≡ halt.Answer (Refused (limit_refusal limit))
limit_halts (Wide, at) = refl
limit_halts (Count, at) = refl
limit_halts (Work, at) = refl

-- the walk of a callee's claim reaches one
pub callee_limited : (r : Ready) (f : PreFault) → IsLimited (callees_of r.hardware r.linked.inner) f → HaltsBy (EndsEarly r) (walk_halt f)
callee_limited r f (inl memory) = subst (λ g. HaltsBy (EndsEarly r) (walk_halt g)) (sym memory) tt
callee_limited r f (inr l) = subst (HaltsBy (EndsEarly r)) (sym (ap walk_halt l.1 ∙ limit_halts l.0)) (ap (behind_callees r) l.2)

-- a callee's claim in use isn't accepted
pub callee_fails : (r : Ready) (j : JudgedClaim) → Finds (callees_of r.hardware r.linked.inner) (Some j) → EndsEarly r (callee_answer r.text j)
callee_fails r j (AllAccepted js, is, found) = absurd (cc)
callee_fails r j (OneFails k, is, found) = let same : j ≡ k = cc in ap (behind_callees r) is ∙ ap (λ x. Some (callee_answer r.text x)) (sym same)

-- all of them are
pub callees_stand : (r : Ready) → Finds (callees_of r.hardware r.linked.inner) None → CalleesStand r
callees_stand r (AllAccepted js, is, found) = (js, is)
callees_stand r (OneFails j, is, found) = absurd (cc)

-- ---- the claims of the function

standing : (r : Ready) → CalleesStand r → early_answer r ≡ claims_answer r.linked.kernel
standing r stands = ap (behind_callees r) stands.1

pub claim_limited : (r : Ready) (f : PreFault) → CalleesStand r → IsFirstLimit r.linked.kernel r.linked.kernel.claims f → HaltsBy (EndsEarly r) (walk_halt f)
claim_limited r f stands (inl memory) = subst (λ g. HaltsBy (EndsEarly r) (walk_halt g)) (sym memory) tt
claim_limited r f stands (inr l) =
    let k = r.linked.kernel in
    subst (HaltsBy (EndsEarly r)) (sym (ap walk_halt l.1 ∙ limit_halts l.0))
    (standing r stands
    ∙ ap (λ o. option_or (option_map (λ limit. Refused (limit_refusal limit)) o) (needs_answer k (first_needs 1 k.claims (conjuncts_of k)))) l.2)

mapped_twice : (k : Kernel) (cs : List Claim) (f : Claim → Conjuncts) (g : Claim → List Conj) → ((c : Claim) → (f c).conjs ≡ g c) → map (λ p. p.conjs) (map f cs) ≡ map g cs
mapped_twice k [] f g h = refl
mapped_twice k (c ∷ cs) f g h = let a = h c in let b = mapped_twice k cs f g h in λ i. a i ∷ b i

-- no walk reaches a limit, so the first claim that needs a variable decides
needs_decide : (r : Ready) (ps : List Conjuncts) (n : Option (ℕ × ℕ)) → CalleesStand r → first_limit r.linked.kernel r.linked.kernel.claims ≡ None → ps ≡ predicates_of r.linked.kernel
    → n ≡ first_needs 1 r.linked.kernel.claims (map (λ p. p.conjs) ps) → early_answer r ≡ needs_answer r.linked.kernel n
needs_decide r ps n stands unlimited tops needs =
    let k = r.linked.kernel in
    let lists : map (λ p. p.conjs) ps ≡ conjuncts_of k = ap (λ qs. map (λ p. p.conjs) qs) tops ∙ mapped_twice k k.claims _ _ (λ c. refl) in
    let is : n ≡ first_needs 1 k.claims (conjuncts_of k) = needs ∙ ap (first_needs 1 k.claims) lists in
    standing r stands
    ∙ (ap (λ o. option_or (option_map (λ limit. Refused (limit_refusal limit)) o) (needs_answer k (first_needs 1 k.claims (conjuncts_of k)))) unlimited
    ∙ ap (needs_answer k) (sym is))

pub claim_needs : (r : Ready) (ps : List Conjuncts) (n : ℕ × ℕ) → CalleesStand r → first_limit r.linked.kernel r.linked.kernel.claims ≡ None → ps ≡ predicates_of r.linked.kernel
    → Some n ≡ first_needs 1 r.linked.kernel.claims (map (λ p. p.conjs) ps) → EndsEarly r (Text (needs_line r.linked.kernel n) Failing)
claim_needs r ps n stands unlimited tops needs = needs_decide r ps (Some n) stands unlimited tops needs

pub goes_on : (r : Ready) (ps : List Conjuncts) → CalleesStand r → first_limit r.linked.kernel r.linked.kernel.claims ≡ None → ps ≡ predicates_of r.linked.kernel
    → None ≡ first_needs 1 r.linked.kernel.claims (map (λ p. p.conjs) ps) → early_answer r ≡ None
goes_on r ps stands unlimited tops needs = needs_decide r ps None stands unlimited tops needs
