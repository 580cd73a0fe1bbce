-- What the lines promise.
use Rattle.std.proofs.Common.{◌≡◌, Bool, true, false, List, [], ◌∷◌, Result, Ok, Err, refl, sym, subst, ◌∙◌}
use Rattle.std.specs.Prelude.{if◌then◌else◌}
use Rattle.std.specs.List.{AllByRecursion}
use Rattle.rely_num.specs.declared.span.Span.{Span}
use Rattle.rely_num.specs.Texts.{Bytes}
use Rattle.rely_precond.specs.Walk.{Limit}
use Rattle.chisel_claims.proofs.Holding.{each_near, fails_unaccepted, function_holds, reached_hold}
use Rattle.chisel_claims.specs.Promises.{IsNearly, Keeps}
use Rattle.chisel_claims.specs.Verdicts.{AllAccepted, Called, JudgedClaim, OneFails, callees_of, own_judged, ◌>>=◌}
use Rattle.rely_kernel.specs.Rates.{own}
use Rattle.chisel_lines.specs.Faults.{Both}
use Rattle.chisel_lines.specs.Refusals.{limit_refusal, refusal_line, refusal_status}
use Rattle.chisel_lines.specs.Statuses.{status_of}
use Rattle.chisel_lines.specs.declared.status.Status.{Status}
use Rattle.chisel_verify.specs.Answer.{HasAnswer, Input, OneAnswer, answers}
use Rattle.chisel_verify.specs.Lines.{Said, behind_callees, grade_on, lines_of, text_of, verdicts_of}
use Rattle.chisel_verify.specs.Promises.{IsInput, KeepsPromise, LinesHold}

-- ---- one answer

some_answer : (source : Bytes) (x : Result Said (Limit × Span)) → (text : Bytes) × (s : Status) × answers source x text s
some_answer source (Ok lines) = (text_of source lines, status_of (grade_on (verdicts_of lines)), (refl, refl))
some_answer source (Err limit) = (refusal_line (limit_refusal limit), refusal_status (limit_refusal limit), (refl, refl))

pub has_answer : HasAnswer
has_answer i = some_answer i.ready.text (lines_of i.ready i.callees)

same_answer : (source : Bytes) (x : Result Said (Limit × Span)) (text text' : Bytes) (s s' : Status) → answers source x text s → answers source x text' s' → Both text s text' s'
same_answer source (Ok lines) text text' s s' a b = (a.0 ∙ sym b.0, a.1 ∙ sym b.1)
same_answer source (Err limit) text text' s s' a b = (a.0 ∙ sym b.0, a.1 ∙ sym b.1)

pub one_answer : OneAnswer
one_answer i text text' s s' a b = same_answer i.ready.text (lines_of i.ready i.callees) text text' s s' a b

-- ---- what the lines promise

module _ (i : Input) (is : IsInput i) where
  all_or_none : (P : JudgedClaim → Type 0) (b : Bool) (js : List JudgedClaim) → AllByRecursion P js → AllByRecursion P (if b then js else [])
  all_or_none P true js h = h
  all_or_none P false js h = tt

  by_own : (js : List JudgedClaim) (lines : Said) → callees_of i.ready.hardware i.ready.linked.inner ≡ Ok (AllAccepted js) → (x : Result (List JudgedClaim) (Limit × Span)) → own_judged i.ready.hardware i.ready.linked ≡ x
      → (x >>= λ own. Ok (record { callees = if i.callees then js else []; own = own; deciding = own })) ≡ Ok lines → LinesHold i lines
  by_own js lines called (Err limit) judged e = absurd (cc)
  by_own js lines called (Ok all) judged e =
      let same : record { callees = if i.callees then js else []; own = all; deciding = all } ≡ lines = cc in
      subst (LinesHold i) same
      (record {
        callees = all_or_none (Keeps i.ready.hardware i.ready.linked) i.callees js (reached_hold i.ready.hardware i.ready.linked (own i.ready.linked.kernel) js is.ready.hardware is.ready.linked called);
        own = function_holds i.ready.hardware i.ready.linked js all is.ready.hardware is.ready.linked called judged;
        callees_near = all_or_none (IsNearly i.ready.hardware) i.callees js (each_near.callees i.ready.hardware i.ready.linked js is.ready.hardware is.ready.linked called);
        own_near = each_near.function i.ready.hardware i.ready.linked all is.ready.hardware is.ready.linked judged;
      })

  by_callees : (lines : Said) (x : Result Called (Limit × Span)) → callees_of i.ready.hardware i.ready.linked.inner ≡ x → (x >>= behind_callees i.ready i.callees) ≡ Ok lines → LinesHold i lines
  by_callees lines (Err limit) called e = absurd (cc)
  by_callees lines (Ok (AllAccepted js)) called e = by_own js lines called (own_judged i.ready.hardware i.ready.linked) refl e
  by_callees lines (Ok (OneFails j)) called e =
      let same : record { callees = j ∷ []; own = []; deciding = j ∷ [] } ≡ lines = cc in
      subst (LinesHold i) same
      (record {
        callees = ((λ lo accepted. absurd (fails_unaccepted i.ready.hardware i.ready.linked j lo called accepted)), tt);
        own = tt;
        callees_near = (each_near.failing i.ready.hardware i.ready.linked j is.ready.hardware is.ready.linked called, tt);
        own_near = tt;
      })

pub keeps_promise : KeepsPromise
keeps_promise i is lines e = by_callees i is lines (callees_of i.ready.hardware i.ready.linked.inner) refl e
