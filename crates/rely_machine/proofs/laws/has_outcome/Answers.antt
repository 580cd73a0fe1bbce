use Rattle.rely_machine.proofs.Determined.{has_outcome}
use Rattle.rely_machine.proofs.laws.has_outcome.Goals as goal

pub returns : goal.returns
returns c = has_outcome
