use Rattle.chisel_rewritten_verdicts.proofs.SameVerdicts.{same_verdicts}
use Rattle.chisel_rewritten_verdicts.proofs.law.same_verdicts.Goals as goal

pub returns : goal.returns
returns c = same_verdicts
