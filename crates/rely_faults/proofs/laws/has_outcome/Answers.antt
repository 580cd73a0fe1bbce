use Rattle.rely_faults.proofs.Finishing.{has_outcome}
use Rattle.rely_faults.proofs.laws.has_outcome.Goals as goal

pub returns : goal.returns
returns c = has_outcome
