use Rattle.chisel_run.proofs.OneAnswers.{one_answer}
use Rattle.chisel_run.proofs.SomeAnswers.{has_answer}
use Rattle.chisel_run.proofs.law.one_answer.Goals as goal

pub returns-clause-some : goal.returns-clause-some
returns-clause-some c = has_answer

pub returns-clause-only : goal.returns-clause-only
returns-clause-only c = one_answer
