use Rattle.chisel_rewritten_verdicts.proofs.SameVerdicts.{met_never_fails}
use Rattle.chisel_rewritten_verdicts.proofs.law.met_never_fails.Goals as goal

pub returns : goal.returns
returns c = met_never_fails
