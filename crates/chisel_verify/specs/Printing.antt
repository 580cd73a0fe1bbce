-- What is printed of claims that are judged, for the contracts of private parts.
use Rattle.std.specs.Prelude.{◌≡◌, List, map, flat_map, Result, Ok}
use Rattle.rely_num.specs.Texts.{Bytes}
use Rattle.rely_num.specs.declared.span.Span.{Span}
use Rattle.rely_precond.specs.Walk.{Limit}
use Rattle.chisel_claims.specs.Verdicts.{AllAccepted, Called, JudgedClaim, OneFails}
use Rattle.chisel_verify.specs.Lines.{Said, callee_text, own_text, text_of, verdicts_of}
use Rattle.chisel_verify.specs.declared.callees.CalleeLines.{CalleeLines}
use Rattle.chisel_verify.specs.declared.callees.CalleeLines.TheVariants as lines
use Rattle.chisel_verify.specs.declared.printed.Printed.{Printed}

-- the lines of all claims in use, or the one that fails
abbrev pub AreCalleeLines : Bytes → Called → CalleeLines → Type 0
AreCalleeLines source (AllAccepted js) (lines.AllAccepted text) = text.items ≡ flat_map (callee_text source) js
AreCalleeLines source (OneFails j) (lines.OneFails text v) = (text.items ≡ callee_text source j) × (v ≡ j.verdict)
AreCalleeLines source (AllAccepted js) (lines.OneFails text v) = ⊥
AreCalleeLines source (OneFails j) (lines.AllAccepted text) = ⊥

-- no limit is reached, and these are the lines
abbrev pub PrintsCallees : Bytes → Result Called (Limit × Span) → CalleeLines → Type 0
PrintsCallees source x c = (end : Called) × (x ≡ Ok end) × AreCalleeLines source end c

abbrev pub PrintsOwn : Result (List JudgedClaim) (Limit × Span) → Printed → Type 0
PrintsOwn x p = (js : List JudgedClaim) × (x ≡ Ok js) × (p.text.items ≡ flat_map own_text js) × (p.verdicts.items ≡ map (λ j. j.verdict) js)

-- the same of all lines
abbrev pub Prints : Bytes → Result Said (Limit × Span) → Printed → Type 0
Prints source x p = (s : Said) × (x ≡ Ok s) × (p.text.items ≡ text_of source s) × (p.verdicts.items ≡ verdicts_of s)
