use Rattle.rely_hard.proofs.Said.{members}
use Rattle.rely_hard.proofs.laws.members.Goals as goal

pub returns : goal.returns
returns c = members
