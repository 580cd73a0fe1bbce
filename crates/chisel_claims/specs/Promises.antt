-- What verdicts promise: in every forest of runs the bound of each accepted claim, and the nearness of an undecided one.
use Rattle.std.specs.Prelude.{ℕ, ◌≡◌, Ok, List}
use Rattle.std.specs.List.{AllByRecursion}
use Rattle.rely_hard.specs.Valid.{IsHardware}
use Rattle.rely_hard.specs.declared.hardware.Hardware.{Hardware}
use Rattle.rely_kernel.specs.declared.kernel.Linked.{Linked}
use Rattle.rely_kernel.specs.declared.setting.Setting.{Setting}
use Rattle.rely_kernel.specs.Bound.{BoundHolds}
use Rattle.rely_kernel.specs.Machine.{functions}
use Rattle.rely_kernel.specs.Paths.{paths_of}
use Rattle.rely_kernel.specs.Rates.{rate, rates, own, settings}
use Rattle.rely_kernel.specs.Valid.{IsLinked}
use Rattle.rely_predicate.specs.Top.{top}
use Rattle.rely_verdict.specs.Judged.{IsNear}
use Rattle.rely_verdict.specs.Soundness.{ReachedAccepted}
use Rattle.rely_verdict.specs.declared.verdict.Verdict.TheVariants.{Accepted}
use Rattle.chisel_claims.specs.Verdicts.{AllAccepted, JudgedClaim, OneFails, callees_of, own_judged}

-- in every forest of runs on this hardware the claim's bound holds, where the function has this setting, and each that it
-- reaches its own kinds and memories
abbrev pub HoldsUnder : Hardware → Linked → Setting → JudgedClaim → Type 0
HoldsUnder h l t j = BoundHolds (functions l) (rate h (functions l) (settings l t)) j.kernel j.function j.claim

-- so it is where the verdict is that it is accepted
abbrev pub KeepsUnder : Hardware → Linked → Setting → JudgedClaim → Type 0
KeepsUnder h l t j = (lo : ℕ) → j.verdict ≡ Accepted lo → HoldsUnder h l t j

-- the same under the function's own kinds
abbrev pub Keeps : Hardware → Linked → JudgedClaim → Type 0
Keeps h l j = KeepsUnder h l (own l.kernel) j

-- ---- laws

-- where no callee fails, the claims in use of all reached functions are accepted
abbrev pub CalleesAccepted : Type 0
CalleesAccepted = (h : Hardware) (l : Linked) (js : List JudgedClaim) → callees_of h l.inner ≡ Ok (AllAccepted js) → ReachedAccepted h l

-- and they hold, under every setting of the function
abbrev pub ReachedHold : Type 0
ReachedHold =
    (h : Hardware) (l : Linked) (t : Setting) (js : List JudgedClaim) → IsHardware h → IsLinked l
    → callees_of h l.inner ≡ Ok (AllAccepted js) → AllByRecursion (KeepsUnder h l t) js

-- and so does each accepted claim of the function
abbrev pub FunctionHolds : Type 0
FunctionHolds =
    (h : Hardware) (l : Linked) (js own : List JudgedClaim) → IsHardware h → IsLinked l
    → callees_of h l.inner ≡ Ok (AllAccepted js) → own_judged h l ≡ Ok own → AllByRecursion (Keeps h l) own

-- ---- nearness

-- the bound of a claim that is undecided lies between two products that are near each other
abbrev pub IsNearly : Hardware → JudgedClaim → Type 0
IsNearly h j = IsNear (rates h j.kernel (own j.kernel)) j.claim.bound (top (paths_of j.kernel j.claim.target)) j.verdict

-- so it is with each claim that is judged
pub record JudgedNear : Type 0 where
  pub function : (h : Hardware) (l : Linked) (own : List JudgedClaim) → IsHardware h → IsLinked l → own_judged h l ≡ Ok own → AllByRecursion (IsNearly h) own
  pub callees : (h : Hardware) (l : Linked) (js : List JudgedClaim) → IsHardware h → IsLinked l → callees_of h l.inner ≡ Ok (AllAccepted js) → AllByRecursion (IsNearly h) js
  pub failing : (h : Hardware) (l : Linked) (j : JudgedClaim) → IsHardware h → IsLinked l → callees_of h l.inner ≡ Ok (OneFails j) → IsNearly h j

-- ---- a callee that fails isn't accepted

abbrev pub FailsUnaccepted : Type 0
FailsUnaccepted = (h : Hardware) (l : Linked) (j : JudgedClaim) (lo : ℕ) → callees_of h l.inner ≡ Ok (OneFails j) → j.verdict ≡ Accepted lo → ⊥
