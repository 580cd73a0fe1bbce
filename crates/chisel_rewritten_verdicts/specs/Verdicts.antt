-- How a function is judged once a choice is named in it: as under the setting of the choice.
use Rattle.std.specs.Prelude.{◌≡◌, ℕ, false, List, Ok}
use Rattle.rely_num.specs.declared.conj.Conj.{Conj}
use Rattle.rely_hard.specs.Valid.{IsHardware}
use Rattle.rely_hard.specs.declared.hardware.Hardware.{Hardware}
use Rattle.rely_kernel.specs.Paths.{paths_of}
use Rattle.rely_kernel.specs.Rates.{own, rates}
use Rattle.rely_kernel.specs.Valid.{IsValid}
use Rattle.rely_kernel.specs.declared.kernel.Claim.{Claim}
use Rattle.rely_kernel.specs.declared.kernel.Kernel.{Kernel}
use Rattle.rely_kernel.specs.declared.kernel.Slot.{Slot}
use Rattle.rely_kernel.specs.declared.setting.Setting.{Setting}
use Rattle.rely_precond.specs.Walk.{Stands, walk_claim}
use Rattle.rely_verdict.specs.Soundness.{IsMet}
use Rattle.rely_verdict.specs.declared.verdict.Verdict.{Verdict}
use Rattle.chisel_claims.specs.Verdicts.{is_failing, judgement, verdict_on}
use Rattle.chisel_rewrite.specs.Alike.{IsSetBy, IsWith}

-- kernels that are the same, spans aside, have the same paths, whatever their kinds and memories
abbrev pub SamePaths : Type 0
SamePaths = (kinds memories : List Slot) (k other : Kernel) → IsWith kinds memories k other → (target : ℕ) → paths_of other target ≡ paths_of k target

-- and where the walk through one reaches no limit, that through the other reaches none, and comes to the same
abbrev pub SameWalks : Type 0
SameWalks =
    (kinds memories : List Slot) (k other : Kernel) → IsWith kinds memories k other
    → (target work : ℕ) (conjuncts : List Conj) → walk_claim k target ≡ Stands conjuncts work → walk_claim other target ≡ Stands conjuncts work

-- what is named by a setting has the rates of the setting, under its own kinds and memories
abbrev pub SameRates : Type 0
SameRates = (h : Hardware) (t : Setting) (k other : Kernel) → IsSetBy t k other → rates h other (own other) ≡ rates h k t

-- and its verdicts
abbrev pub SameVerdicts : Type 0
SameVerdicts =
    (h : Hardware) (t : Setting) (k other : Kernel) (claim : Claim) → IsSetBy t k other
    → verdict_on h other (own other) claim ≡ verdict_on h k t claim

-- where no limit is reached
abbrev pub SameJudgements : Type 0
SameJudgements =
    (h : Hardware) (t : Setting) (k other : Kernel) (claim : Claim) (v : Verdict) → IsSetBy t k other
    → judgement h k t claim ≡ Ok v → judgement h other (own other) claim ≡ Ok v

-- no verdict fails where the conjuncts name needs alone and their exact products are enough: it is accepted or undecided
abbrev pub MetNeverFails : Type 0
MetNeverFails =
    (h : Hardware) (k : Kernel) (t : Setting) (claim : Claim) → IsHardware h → IsValid k → IsMet h k t claim
    → is_failing (verdict_on h k t claim) ≡ false
