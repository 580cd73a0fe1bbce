use Rattle.rely_faults.proofs.Determined.{ends_or_passes}
use Rattle.rely_faults.proofs.laws.ends_or_passes.Goals as goal

pub returns : goal.returns
returns c = ends_or_passes
