use Rattle.rely_precond.proofs.Covering.{covering_is_kept}
use Rattle.rely_precond.proofs.laws.covering_is_kept.Goals as goal

pub returns : goal.returns
returns c = covering_is_kept
