use Rattle.chisel_rewritten_verdicts.proofs.SameJudgements.{same_judgements}
use Rattle.chisel_rewritten_verdicts.proofs.law.same_judgements.Goals as goal

pub returns : goal.returns
returns c = same_judgements
