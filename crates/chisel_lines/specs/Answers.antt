-- The text and the status of an answer.
use Rattle.rely_num.specs.Texts.{Bytes}
use Rattle.chisel_lines.specs.declared.answer.Answer.{Answer}
use Rattle.chisel_lines.specs.declared.answer.Answer.TheVariants as answer
use Rattle.chisel_lines.specs.declared.status.Status.{Status}
use Rattle.chisel_lines.specs.Refusals.{refusal_line, refusal_status}
use Rattle.chisel_lines.specs.Statuses.{status_of}

abbrev pub answer_text : Answer → Bytes
answer_text (answer.Text text grade) = text
answer_text (answer.Refused r) = refusal_line r

abbrev pub answer_status : Answer → Status
answer_status (answer.Text text grade) = status_of grade
answer_status (answer.Refused r) = refusal_status r
