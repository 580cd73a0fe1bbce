-- The claims that have a line, and the text of the lines.
use Rattle.std.specs.Prelude.{Bool, List, [], ◌∷◌, ◌++◌, map, flat_map, Result, Ok, if◌then◌else◌}
use Rattle.std.specs.List.{list_any}
use Rattle.rely_num.specs.Texts.{Bytes}
use Rattle.rely_num.specs.declared.span.Span.{Span}
use Rattle.rely_precond.specs.Walk.{Limit}
use Rattle.rely_verdict.specs.declared.verdict.Verdict.{Verdict}
use Rattle.chisel_claims.specs.Verdicts.{AllAccepted, Called, JudgedClaim, OneFails, callees_of, is_failing, is_undecided, own_judged, ◌>>=◌}
use Rattle.chisel_lines.specs.ClaimLines.{callee_line, line_on}
use Rattle.chisel_lines.specs.declared.status.Grade.{Grade}
use Rattle.chisel_lines.specs.declared.status.Grade.TheVariants.{Good, Failing, Undecided}
use Rattle.chisel_source.specs.declared.ready.Ready.{Ready}

-- claims in use of the functions that are called, and then claims of the function; and those whose verdicts give the status,
-- which are the function's, or the one callee's that isn't accepted
pub record Said : Type 0 where
  pub callees : List JudgedClaim
  pub own : List JudgedClaim
  pub deciding : List JudgedClaim

-- the claims of the function, behind those of its callees where they are wanted; or the one callee's that isn't accepted
abbrev pub behind_callees : Ready → Bool → Called → Result Said (Limit × Span)
behind_callees r wanted (OneFails j) = Ok (record { callees = j ∷ []; own = []; deciding = j ∷ [] })
behind_callees r wanted (AllAccepted js) =
    own_judged r.hardware r.linked >>= λ own. Ok (record { callees = if wanted then js else []; own = own; deciding = own })

abbrev pub lines_of : Ready → Bool → Result Said (Limit × Span)
lines_of r wanted = callees_of r.hardware r.linked.inner >>= behind_callees r wanted

-- ---- texts

abbrev pub callee_text : Bytes → JudgedClaim → Bytes
callee_text source j = callee_line source j.kernel j.number j.claim j.verdict

abbrev pub own_text : JudgedClaim → Bytes
own_text j = line_on j.kernel j.number j.claim j.verdict

-- one line after another
abbrev pub text_of : Bytes → Said → Bytes
text_of source s = flat_map (callee_text source) s.callees ++ flat_map own_text s.own

-- ---- what the lines say together

-- some verdict fails, or else some is undecided
abbrev pub grade_on : List Verdict → Grade
grade_on vs = if list_any is_failing vs then Failing else (if list_any is_undecided vs then Undecided else Good)

abbrev pub verdicts_of : Said → List Verdict
verdicts_of s = map (λ j. j.verdict) s.deciding
