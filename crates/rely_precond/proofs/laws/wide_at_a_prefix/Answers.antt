use Rattle.rely_precond.proofs.Limits.{added_wide}
use Rattle.rely_precond.proofs.laws.wide_at_a_prefix.Goals as goal

pub returns : goal.returns
returns c = added_wide
