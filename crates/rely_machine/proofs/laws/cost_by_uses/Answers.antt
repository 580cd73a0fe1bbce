use Rattle.rely_machine.proofs.EnergyRuns.{cost_by_uses}
use Rattle.rely_machine.proofs.laws.cost_by_uses.Goals as goal

pub returns : goal.returns
returns c = cost_by_uses
