use Rattle.chisel_rewritten_verdicts.proofs.Reported.{own_as_chosen}
use Rattle.chisel_rewritten_verdicts.proofs.law.own_as_chosen.Goals as goal

pub returns : goal.returns
returns c = own_as_chosen
