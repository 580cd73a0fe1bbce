-- The answer of `verify` to what is asked.
use Rattle.std.specs.Prelude.{Bool, Result, Ok, Err}
use Rattle.rely_num.specs.Texts.{Bytes}
use Rattle.rely_num.specs.declared.span.Span.{Span}
use Rattle.rely_precond.specs.Walk.{Limit}
use Rattle.chisel_lines.specs.Faults.{Both}
use Rattle.chisel_lines.specs.Refusals.{limit_refusal, refusal_line, refusal_status}
use Rattle.chisel_lines.specs.Statuses.{status_of}
use Rattle.chisel_lines.specs.declared.status.Status.{Status}
use Rattle.chisel_source.specs.declared.ready.Ready.{Ready}
use Rattle.chisel_verify.specs.Lines.{Said, grade_on, lines_of, text_of, verdicts_of}

-- what is ready, and whether the lines of the functions that are called are wanted
pub record Input : Type 0 where
  pub ready : Ready
  pub callees : Bool

abbrev pub asked : Ready → Bool → Input
asked r wanted = record { ready = r; callees = wanted }

-- the lines, or the limit that a walk reaches
abbrev pub answers : Bytes → Result Said (Limit × Span) → Bytes → Status → Type 0
answers source (Ok lines) text s = Both text s (text_of source lines) (status_of (grade_on (verdicts_of lines)))
answers source (Err limit) text s = Both text s (refusal_line (limit_refusal limit)) (refusal_status (limit_refusal limit))

abbrev pub IsAnswer : Input → Bytes → Status → Type 0
IsAnswer i text s = answers i.ready.text (lines_of i.ready i.callees) text s

-- what is asked has an answer
abbrev pub HasAnswer : Type 0
HasAnswer = (i : Input) → (text : Bytes) × (s : Status) × IsAnswer i text s

-- and no other
abbrev pub OneAnswer : Type 0
OneAnswer = (i : Input) (text text' : Bytes) (s s' : Status) → IsAnswer i text s → IsAnswer i text' s' → Both text s text' s'
