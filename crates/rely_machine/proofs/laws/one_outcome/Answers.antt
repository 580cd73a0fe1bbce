use Rattle.rely_machine.proofs.Determined.{one_outcome}
use Rattle.rely_machine.proofs.laws.one_outcome.Goals as goal

pub returns : goal.returns
returns c = one_outcome
