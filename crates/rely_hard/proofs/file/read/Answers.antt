use Rattle.rely_hard.proofs.Kept.{valid_from_value}
use Rattle.rely_hard.proofs.file.read.Goals as goal

pub returns-clause-valid : goal.returns-clause-valid
returns-clause-valid c = valid_from_value _ _ c.hardware_from.ensures.ok
