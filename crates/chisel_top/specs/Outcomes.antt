-- What the commands come to over a shelf, for the contracts of private parts.
use Rattle.std.specs.Prelude.{◌≡◌, Option, Result, Ok, Err}
use Rattle.rely_num.specs.Texts.{Bytes}
use Rattle.chisel_files.specs.Works.{Content, Work, Works}
use Rattle.chisel_lines.specs.Answers.{answer_status, answer_text}
use Rattle.chisel_lines.specs.Faults.{fault_line, fault_status}
use Rattle.chisel_lines.specs.declared.answer.Answer.{Answer}
use Rattle.chisel_lines.specs.declared.fault.Fault.{Fault}
use Rattle.chisel_lines.specs.declared.fault.Fault.TheVariants as fault
use Rattle.chisel_lines.specs.declared.status.Status.{Status}
use Rattle.chisel_outside.specs.Outside.{Log}
use Rattle.chisel_top.specs.Findings.{Finding, IsAnswer, IsSound}

-- the family answers what is found, unless memory is wanting
abbrev pub Final : Result Finding Fault → Result Answer Fault → Type 0
Final (Ok f) (Ok a) = IsAnswer (Ok f) (answer_text a) (answer_status a) × IsSound f
Final (Ok f) (Err e) = e ≡ fault.Memory
Final (Err e) r = r ≡ Err e

-- the work was done over the shelf, and its family answered
pub record Reaches (held : Bytes → Option Content) (old new : Log) (work : Work Finding) (r : Result Answer Fault) : Type 0 where
  pub came : Result Finding Fault
  pub works : Works held old new work came
  pub final : Final came r

-- what is to be written
abbrev pub outcome_text : Result Answer Fault → Bytes
outcome_text (Ok a) = answer_text a
outcome_text (Err f) = fault_line f

abbrev pub outcome_status : Result Answer Fault → Status
outcome_status (Ok a) = answer_status a
outcome_status (Err f) = fault_status f
