use Rattle.rely_precond.proofs.Law.{shift_law}
use Rattle.rely_precond.proofs.laws.walk_commutes_with_shift.Goals as goal

pub returns : goal.returns
returns c = shift_law
