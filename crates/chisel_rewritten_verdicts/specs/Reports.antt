-- What is said of all claims once a choice is named: as under the setting of the choice, and as before of the functions that are reached.
use Rattle.std.specs.Prelude.{◌≡◌, ℕ, false, List, length, map, None, Ok}
use Rattle.std.specs.List.{AllByRecursion, AllZip, range_with_len}
use Rattle.rely_hard.specs.Valid.{IsHardware}
use Rattle.rely_hard.specs.declared.hardware.Hardware.{Hardware}
use Rattle.rely_kernel.specs.Choice.{setting_of}
use Rattle.rely_kernel.specs.Valid.{IsLinked}
use Rattle.rely_kernel.specs.declared.kernel.Kernel.{Kernel}
use Rattle.rely_kernel.specs.declared.kernel.Linked.{Linked}
use Rattle.chisel_claims.specs.Needs.{first_limit}
use Rattle.chisel_claims.specs.Verdicts.{AllAccepted, Called, JudgedClaim, OneFails, callees_of, is_failing, own_judged, verdict_on}
use Rattle.chisel_problem.specs.Least.{IsAllowed, NamesNeedsAlone}
use Rattle.chisel_rewrite.specs.Alike.{IsLike, IsNamedBy}

-- ---- claims of the functions that are reached

-- the same verdict on the same claim, of related kernels
pub record IsJudgedBy (R : Kernel → Kernel → Type 0) (j other : JudgedClaim) : Type 0 where
  pub function : other.function ≡ j.function
  pub kernel : R j.kernel other.kernel
  pub number : other.number ≡ j.number
  pub claim : other.claim ≡ j.claim
  pub verdict : other.verdict ≡ j.verdict

abbrev pub AreCalledBy : (Kernel → Kernel → Type 0) → Called → Called → Type 0
AreCalledBy R (AllAccepted js) (AllAccepted others) = AllZip (IsJudgedBy R) js others
AreCalledBy R (OneFails j) (OneFails other) = IsJudgedBy R j other
AreCalledBy R (AllAccepted js) (OneFails other) = ⊥
AreCalledBy R (OneFails j) (AllAccepted others) = ⊥

-- what is said of them, as of the former
pub record CalledAlike (R : Kernel → Kernel → Type 0) (h : Hardware) (called : Called) (others : List Kernel) : Type 0 where
  pub end : Called
  pub answer : callees_of h others ≡ Ok end
  pub alike : AreCalledBy R called end

-- functions that are the same, spans aside, are judged alike
abbrev pub CalleesAsBefore : Type 0
CalleesAsBefore =
    (h : Hardware) (ks others : List Kernel) (called : Called) → AllZip IsLike ks others → callees_of h ks ≡ Ok called → CalledAlike IsLike h called others

-- ---- claims of the function itself

-- all its claims, numbered from 1, each with the verdict under the setting of the choice
pub record IsJudgedAsChosen (h : Hardware) (l : Linked) (choice : List ℕ) (other : Linked) : Type 0 where
  pub judged : List JudgedClaim
  pub answer : own_judged h other ≡ Ok judged
  pub numbers : map (λ j. j.number) judged ≡ range_with_len 1 (length l.kernel.claims)
  pub claims : map (λ j. j.claim) judged ≡ l.kernel.claims
  pub verdicts : map (λ j. j.verdict) judged ≡ map (verdict_on h l.kernel (setting_of l.kernel choice)) l.kernel.claims

-- so it is where no walk through the function reaches a limit
abbrev pub OwnAsChosen : Type 0
OwnAsChosen =
    (h : Hardware) (l : Linked) (choice : List ℕ) (other : Linked) → IsNamedBy choice l other → first_limit l.kernel l.kernel.claims ≡ None
    → IsJudgedAsChosen h l choice other

-- and where the choice is allowed, none of these verdicts is a `needs` or a `below`
abbrev pub AllowedNeverFails : Type 0
AllowedNeverFails =
    (h : Hardware) (l : Linked) (choice : List ℕ) → IsHardware h → IsLinked l → NamesNeedsAlone l.kernel → IsAllowed h l.kernel choice
    → AllByRecursion (λ claim. is_failing (verdict_on h l.kernel (setting_of l.kernel choice) claim) ≡ false) l.kernel.claims
