use Rattle.rely_machine.proofs.Determined.{reaches_by_outcome}
use Rattle.rely_machine.proofs.laws.reaches_by_outcome.Goals as goal

pub returns : goal.returns
returns c = reaches_by_outcome
