use Rattle.rely_resolve.proofs.Least.{answered}
use Rattle.rely_resolve.proofs.laws.answers_first.Goals as goal

pub returns : goal.returns
returns c = answered
