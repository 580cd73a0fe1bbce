use Rattle.rely_kernel.proofs.Reach.{each_run_ends}
use Rattle.rely_kernel.proofs.laws.each_run_ends.Goals as goal

pub returns : goal.returns
returns c = each_run_ends
