use Rattle.rely_machine.proofs.Determined.{one_cost}
use Rattle.rely_machine.proofs.laws.one_cost.Goals as goal

pub returns : goal.returns
returns c = one_cost
