-- A kernel that is named by a setting is judged as under the setting.
use Rattle.std.proofs.Common.{◌≡◌, ℕ, List, Ok, refl, ap, ◌∙◌, map}
use Rattle.rely_num.specs.declared.conj.Conj.{Conj}
use Rattle.rely_hard.specs.declared.hardware.Hardware.{Hardware}
use Rattle.rely_kernel.specs.Rates.{own}
use Rattle.rely_kernel.specs.declared.kernel.Claim.{Claim}
use Rattle.rely_kernel.specs.declared.kernel.Kernel.{Kernel}
use Rattle.rely_kernel.specs.declared.setting.Setting.{Setting}
use Rattle.rely_kernel.specs.declared.kernel.Slot.{Slot}
use Rattle.rely_kernel.specs.declared.kernel.Slot.TheVariants.{Named}
use Rattle.rely_precond.specs.Walk.{Stands, Stops, Walked, walk_claim}
use Rattle.rely_verdict.specs.declared.verdict.Verdict.{Verdict}
use Rattle.chisel_claims.specs.Verdicts.{judgement, limit_of, unless_limited, verdict_on}
use Rattle.chisel_rewrite.specs.Alike.{IsWith}
use Rattle.chisel_rewritten_verdicts.specs.Verdicts.{SameJudgements}
use Rattle.chisel_rewritten_verdicts.proofs.SameVerdicts.{own_is, verdict_by}
use Rattle.chisel_rewritten_verdicts.proofs.SameWalks.{same_walks}

-- a walk that stands
record Stood (w : Walked) : Type 0 where
  conjuncts : List Conj
  work : ℕ
  stands : w ≡ Stands conjuncts work

stood : (w : Walked) (v u : Verdict) → unless_limited (limit_of w) v ≡ Ok u → Stood w × (v ≡ u)
stood (Stands conjuncts work) v u e = (record { conjuncts = conjuncts; work = work; stands = refl }, cc)
stood (Stops limit at) v u e = absurd (cc)

-- with the setting for its own, the other is judged as under the setting
pub judgement_by : (h : Hardware) (t : Setting) (kinds memories : List Slot) (k other : Kernel) → IsWith kinds memories k other → own other ≡ t → (claim : Claim) (v : Verdict)
    → judgement h k t claim ≡ Ok v → judgement h other (own other) claim ≡ Ok v
judgement_by h t kinds memories k other is mine claim v e =
    let (stands, verdict) = stood (walk_claim k claim.target) (verdict_on h k t claim) v e in
    let walked = same_walks kinds memories k other is claim.target stands.work stands.conjuncts stands.stands in
    ap (λ w. unless_limited (limit_of w) (verdict_on h other (own other) claim)) walked ∙ ap (λ v. Ok v) (verdict_by h t kinds memories k other is claim mine ∙ verdict)

pub same_judgements : SameJudgements
same_judgements h t k other claim v is e = judgement_by h t (map Named t.sites) (map Named t.memories) k other is (own_is t k other is) claim v e
