use Rattle.rely_kernel.proofs.Choice.{closed_has_own}
use Rattle.rely_kernel.proofs.laws.closed_has_own.Goals as goal

pub returns : goal.returns
returns c = closed_has_own
