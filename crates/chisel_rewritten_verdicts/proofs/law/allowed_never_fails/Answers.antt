use Rattle.chisel_rewritten_verdicts.proofs.Reported.{allowed_never_fails}
use Rattle.chisel_rewritten_verdicts.proofs.law.allowed_never_fails.Goals as goal

pub returns : goal.returns
returns c = allowed_never_fails
