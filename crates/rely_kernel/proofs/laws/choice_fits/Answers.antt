use Rattle.rely_kernel.proofs.Choice.{choice_fits}
use Rattle.rely_kernel.proofs.laws.choice_fits.Goals as goal

pub returns : goal.returns
returns c = choice_fits
