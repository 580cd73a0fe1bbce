use Rattle.rely_faults.proofs.Reading.{one_trial}
use Rattle.rely_faults.proofs.laws.one_trial.Goals as goal

pub returns : goal.returns
returns c = one_trial
