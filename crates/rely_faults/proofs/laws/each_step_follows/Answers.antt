use Rattle.rely_faults.proofs.Following.{each_step_follows}
use Rattle.rely_faults.proofs.laws.each_step_follows.Goals as goal

pub returns : goal.returns
returns c = each_step_follows
