use Rattle.chisel_optimise.proofs.Once.{one_answer}
use Rattle.chisel_optimise.proofs.law.one_answer.Goals as goal

pub returns : goal.returns
returns c = one_answer
