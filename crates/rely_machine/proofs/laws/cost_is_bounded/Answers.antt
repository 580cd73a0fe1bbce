use Rattle.rely_machine.proofs.EnergyRuns.{cost_is_bounded}
use Rattle.rely_machine.proofs.laws.cost_is_bounded.Goals as goal

pub returns : goal.returns
returns c = cost_is_bounded
