use Rattle.chisel_rewritten_verdicts.proofs.SameVerdicts.{same_rates}
use Rattle.chisel_rewritten_verdicts.proofs.law.same_rates.Goals as goal

pub returns : goal.returns
returns c = same_rates
