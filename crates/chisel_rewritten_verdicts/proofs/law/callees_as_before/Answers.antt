use Rattle.chisel_rewritten_verdicts.proofs.Reported.{callees_as_before}
use Rattle.chisel_rewritten_verdicts.proofs.law.callees_as_before.Goals as goal

pub returns : goal.returns
returns c = callees_as_before
