-- What the claims say before any sample is run.
use Rattle.std.specs.Prelude.{ℕ, ◌≡◌, ◌-◌, List, [], map, slice_get, Option, Some, None, option_map, Result, Ok, Err}
use Rattle.std.specs.Option.{option_or, option_map_or}
use Rattle.rely_num.specs.Texts.{Bytes}
use Rattle.rely_num.specs.declared.conj.Conj.{Conj}
use Rattle.rely_num.specs.declared.span.Span.{Span}
use Rattle.rely_kernel.specs.declared.kernel.Kernel.{Kernel}
use Rattle.rely_kernel.specs.Paths.{paths_of}
use Rattle.rely_predicate.specs.Top.{top}
use Rattle.rely_precond.specs.Walk.{Limit}
use Rattle.rely_verdict.specs.declared.verdict.Verdict.{Verdict}
use Rattle.rely_verdict.specs.declared.verdict.Verdict.TheVariants as verdict
use Rattle.chisel_claims.specs.Needs.{first_limit, first_needs}
use Rattle.chisel_claims.specs.Verdicts.{JudgedClaim, Called, AllAccepted, OneFails, callees_of}
use Rattle.chisel_lines.specs.ClaimLines.{callee_line, line_on}
use Rattle.chisel_lines.specs.Refusals.{limit_refusal}
use Rattle.chisel_lines.specs.declared.answer.Answer.{Answer}
use Rattle.chisel_lines.specs.declared.answer.Answer.TheVariants.{Text, Refused}
use Rattle.chisel_lines.specs.declared.status.Grade.{Grade}
use Rattle.chisel_lines.specs.declared.status.Grade.TheVariants.{Good, Failing, Undecided}
use Rattle.chisel_source.specs.declared.ready.Ready.{Ready}

-- what a verdict says of the whole
abbrev pub grade_of : Verdict → Grade
grade_of (verdict.Needs v) = Failing
grade_of (verdict.Below hi) = Failing
grade_of (verdict.Undecided lo hi) = Undecided
grade_of (verdict.Accepted lo) = Good

-- the line of a callee whose claim in use isn't accepted
abbrev pub callee_answer : Bytes → JudgedClaim → Answer
callee_answer text j = Text (callee_line text j.kernel j.number j.claim j.verdict) (grade_of j.verdict)

-- the conjuncts of each claim: the top of its paths
abbrev pub conjuncts_of : Kernel → List (List Conj)
conjuncts_of k = map (λ c. top (paths_of k c.target)) k.claims

-- the line of the claim with that number, from 1, which needs that variable
abbrev pub needs_line : Kernel → ℕ × ℕ → Bytes
needs_line k n = option_map_or (λ c. line_on k n.0 c (verdict.Needs n.1)) (slice_get k.claims (n.0 - 1)) []

abbrev pub needs_answer : Kernel → Option (ℕ × ℕ) → Option Answer
needs_answer k None = None
needs_answer k (Some n) = Some (Text (needs_line k n) Failing)

-- the limit that the walk of a claim reaches, or the first claim that needs a variable
abbrev pub claims_answer : Kernel → Option Answer
claims_answer k = option_or (option_map (λ limit. Refused (limit_refusal limit)) (first_limit k k.claims)) (needs_answer k (first_needs 1 k.claims (conjuncts_of k)))

-- a limit, or the callee that fails, comes first
abbrev pub behind_callees : Ready → Result Called (Limit × Span) → Option Answer
behind_callees r (Err limit) = Some (Refused (limit_refusal limit))
behind_callees r (Ok (OneFails j)) = Some (callee_answer r.text j)
behind_callees r (Ok (AllAccepted js)) = claims_answer r.linked.kernel

-- the answer with which the command ends before any sample is run
abbrev pub early_answer : Ready → Option Answer
early_answer r = behind_callees r (callees_of r.hardware r.linked.inner)

-- it ends with this one
abbrev pub EndsEarly : Ready → Answer → Type 0
EndsEarly r a = early_answer r ≡ Some a

-- the claims in use of all functions that are called are accepted
abbrev pub CalleesStand : Ready → Type 0
CalleesStand r = (js : List JudgedClaim) × (callees_of r.hardware r.linked.inner ≡ Ok (AllAccepted js))
