use Rattle.rely_faults.proofs.Determined.{one_outcome}
use Rattle.rely_faults.proofs.laws.one_outcome.Goals as goal

pub returns : goal.returns
returns c = one_outcome
