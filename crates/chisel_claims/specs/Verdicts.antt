-- The verdicts on the claims of a function, and on the claims in use of those that it reaches.
use Rattle.std.specs.Prelude.{ℕ, ◌≡◌, ◌+◌, Bool, true, false, ◌==◌, List, [], ◌∷◌, ◌++◌, length, Option, Some, None, Result, Ok, Err, ◌⊎◌, if◌then◌else◌}
use Rattle.rely_num.specs.declared.span.Span.{Span}
use Rattle.rely_hard.specs.declared.hardware.Hardware.{Hardware}
use Rattle.rely_kernel.specs.declared.kernel.Claim.{Claim}
use Rattle.rely_kernel.specs.declared.kernel.Kernel.{Kernel}
use Rattle.rely_kernel.specs.declared.kernel.Linked.{Linked}
use Rattle.rely_kernel.specs.declared.setting.Setting.{Setting}
use Rattle.rely_kernel.specs.Machine.{main}
use Rattle.rely_kernel.specs.Paths.{paths_of}
use Rattle.rely_kernel.specs.Rates.{rates, own}
use Rattle.rely_predicate.specs.Top.{top}
use Rattle.rely_precond.specs.Walk.{Limit, Walked, Stands, Stops, Wide, Count, Work, walk_claim}
use Rattle.rely_precond.specs.declared.fault.PreFault.{PreFault}
use Rattle.rely_precond.specs.declared.fault.PreFault.TheVariants as walk
use Rattle.rely_verdict.specs.declared.verdict.Verdict.{Verdict}
use Rattle.rely_verdict.specs.declared.verdict.Verdict.TheVariants.{Needs, Below, Undecided, Accepted}
use Rattle.rely_verdict.specs.Judged.{verdict}
use Rattle.chisel_claims.specs.declared.judged.Judged.{Judged}

-- ---- one step after another

infixl 10 ◌>>=◌
abbrev pub ◌>>=◌ : {A B E : Type 0} → Result A E → (A → Result B E) → Result B E
Ok a >>= f = f a
Err e >>= f = Err e

-- ---- one claim

-- the verdict on a claim of the kernel under a setting, over the list of all its paths
abbrev pub verdict_on : Hardware → Kernel → Setting → Claim → Verdict
verdict_on h k t c = verdict (rates h k t) c.needs.bits c.bound (top (paths_of k c.target))

-- the first limit that the walk through the kernel reaches, and its place
abbrev pub limit_of : Walked → Option (Limit × Span)
limit_of (Stands conjuncts work) = None
limit_of (Stops limit at) = Some (limit, at)

-- the verdict, unless a limit is reached before
abbrev pub unless_limited : Option (Limit × Span) → Verdict → Result Verdict (Limit × Span)
unless_limited None v = Ok v
unless_limited (Some limit) v = Err limit

abbrev pub judgement : Hardware → Kernel → Setting → Claim → Result Verdict (Limit × Span)
judgement h k t c = unless_limited (limit_of (walk_claim k c.target)) (verdict_on h k t c)

-- a limit as a fault
abbrev pub fault_at : Limit × Span → PreFault
fault_at (Wide, at) = walk.Wide at
fault_at (Count, at) = walk.Count at
fault_at (Work, at) = walk.Work at

-- the fault is the limit that is reached, or want of memory
abbrev pub IsLimited : {A : Type 0} → Result A (Limit × Span) → PreFault → Type 0
IsLimited x f = (f ≡ walk.Memory) ⊎ ((limit : Limit × Span) × (f ≡ fault_at limit) × (x ≡ Err limit))

abbrev pub is_accepted : Verdict → Bool
is_accepted (Accepted lo) = true
is_accepted _ = false

abbrev pub is_failing : Verdict → Bool
is_failing (Needs v) = true
is_failing (Below hi) = true
is_failing _ = false

abbrev pub is_undecided : Verdict → Bool
is_undecided (Undecided lo hi) = true
is_undecided _ = false

-- ---- claims with their verdicts

-- the function's number among those that are linked, the claim's in its function, and the verdict
pub record JudgedClaim : Type 0 where
  pub function : ℕ
  pub kernel : Kernel
  pub number : ℕ
  pub claim : Claim
  pub verdict : Verdict

-- without where it lies in memory
abbrev pub judged_of : Judged → JudgedClaim
judged_of j = record { function = j.function; kernel = j.kernel.now; number = j.number; claim = j.claim.now; verdict = j.verdict }

-- ---- the claims of the function

-- each of these claims, behind those that are judged so far
abbrev pub own_after : Hardware → ℕ → Kernel → List JudgedClaim → List Claim → Result (List JudgedClaim) (Limit × Span)
own_after h f k js [] = Ok js
own_after h f k js (c ∷ cs) =
    judgement h k (own k) c >>= λ v. own_after h f k (js ++ record { function = f; kernel = k; number = length js + 1; claim = c; verdict = v } ∷ []) cs

-- all claims of the function, under its own kinds and memories
abbrev pub own_judged : Hardware → Linked → Result (List JudgedClaim) (Limit × Span)
own_judged h l = own_after h (main l) l.kernel [] l.kernel.claims

-- ---- the functions that are reached

-- the number, from 1, and the claim in use: the first on the result
abbrev pub in_use_from : ℕ → List Claim → Option (ℕ × Claim)
in_use_from i [] = None
in_use_from i (c ∷ cs) = if c.target == 63 then Some (i, c) else in_use_from (i + 1) cs

-- the verdict on a function's claim in use, where it has one
abbrev pub callee_on : Hardware → ℕ → Kernel → Option (ℕ × Claim) → Result (Option JudgedClaim) (Limit × Span)
callee_on h f k None = Ok None
callee_on h f k (Some n) =
    judgement h k (own k) n.1 >>= λ v. Ok (Some (record { function = f; kernel = k; number = n.0; claim = n.1; verdict = v }))

-- all of them are accepted, or the first that isn't
pub data Called : Type 0 where
  AllAccepted : List JudgedClaim → Called
  OneFails : JudgedClaim → Called

-- what follows behind those so far, unless this one isn't accepted
abbrev pub after_callee : List JudgedClaim → Option JudgedClaim → (List JudgedClaim → Result Called (Limit × Span)) → Result Called (Limit × Span)
after_callee js None next = next js
after_callee js (Some j) next = if is_accepted j.verdict then next (js ++ j ∷ []) else Ok (OneFails j)

-- the functions from that number on, behind those so far
abbrev pub callees_after : Hardware → ℕ → List JudgedClaim → List Kernel → Result Called (Limit × Span)
callees_after h f js [] = Ok (AllAccepted js)
callees_after h f js (k ∷ ks) =
    callee_on h f k (in_use_from 1 k.claims) >>= λ c. after_callee js c (λ more. callees_after h (f + 1) more ks)

-- the claims in use of all these functions, each under its own kinds and memories
abbrev pub callees_of : Hardware → List Kernel → Result Called (Limit × Span)
callees_of h ks = callees_after h 0 [] ks

-- the one that fails
abbrev pub failing_of : Called → Option JudgedClaim
failing_of (AllAccepted js) = None
failing_of (OneFails j) = Some j

-- no limit is reached, and that is the one that fails, if any
abbrev pub Finds : Result Called (Limit × Span) → Option JudgedClaim → Type 0
Finds x o = (end : Called) × (x ≡ Ok end) × (o ≡ failing_of end)
