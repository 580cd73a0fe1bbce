use Rattle.rely_kernel.proofs.Sound.{weights_are_kept}
use Rattle.rely_kernel.proofs.laws.weights_are_kept.Goals as goal

pub returns : goal.returns
returns c = weights_are_kept
