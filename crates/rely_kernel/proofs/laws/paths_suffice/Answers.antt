use Rattle.rely_kernel.proofs.Sound.{paths_suffice}
use Rattle.rely_kernel.proofs.laws.paths_suffice.Goals as goal

pub returns : goal.returns
returns c = paths_suffice
