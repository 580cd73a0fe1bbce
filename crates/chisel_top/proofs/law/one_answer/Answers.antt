use Rattle.chisel_top.proofs.OneAnswers.{one_answer}
use Rattle.chisel_top.proofs.law.one_answer.Goals as goal

pub returns : goal.returns
returns c = one_answer
