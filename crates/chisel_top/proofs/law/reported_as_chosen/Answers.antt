use Rattle.chisel_top.proofs.Reported.{reported_as_chosen}
use Rattle.chisel_top.proofs.law.reported_as_chosen.Goals as goal

pub returns : goal.returns
returns c = reported_as_chosen
