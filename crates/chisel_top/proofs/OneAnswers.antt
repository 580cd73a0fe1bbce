-- What is found has at most one answer.
use Rattle.std.proofs.Common.{Some, None, Ok, Err, sym, ◌∙◌}
use Rattle.rely_num.specs.Texts.{Bytes}
use Rattle.chisel_optimise.proofs.Once.{one_answer as one_choice}
use Rattle.chisel_lines.specs.Faults.{Both, IsStop, NoForm, Refused, Stop, TooLong, Unread}
use Rattle.chisel_lines.specs.declared.status.Status.{Status}
use Rattle.chisel_run.proofs.OneAnswers.{one_answer as one_run}
use Rattle.chisel_verify.proofs.Promising.{one_answer as one_verdict}
use Rattle.chisel_top.specs.Findings.{Choosing, Introducing, Judging, OneAnswer, Running}

both_same : (text text' wanted : Bytes) (s s' status : Status) → Both text s wanted status → Both text' s' wanted status → Both text s text' s'
both_same text text' wanted s s' status a b = (a.0 ∙ sym b.0, a.1 ∙ sym b.1)

one_stop : (stop : Stop) (text text' : Bytes) (s s' : Status) → IsStop stop text s → IsStop stop text' s' → Both text s text' s'
one_stop NoForm text text' s s' a b = both_same text text' _ s s' _ a b
one_stop (Unread name) text text' s s' a b = both_same text text' _ s s' _ a b
one_stop (TooLong name limit) text text' s s' a b = both_same text text' _ s s' _ a b
one_stop (Refused None) text text' s s' a b = absurd a
one_stop (Refused (Some r)) text text' s s' a b = both_same text text' _ s s' _ a b

pub one_answer : OneAnswer
one_answer (Ok (Judging i)) text text' s s' a b = one_verdict i text text' s s' a b
one_answer (Ok (Running i)) text text' s s' a b = one_run i text text' s s' a b
one_answer (Ok (Choosing i)) text text' s s' a b = one_choice i text text' s s' a b
one_answer (Ok Introducing) text text' s s' a b = both_same text text' _ s s' _ a b
one_answer (Err stop) text text' s s' a b = one_stop stop text text' s s' a b
