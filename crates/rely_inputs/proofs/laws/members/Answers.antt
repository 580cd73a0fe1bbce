use Rattle.rely_inputs.proofs.Said.{members}
use Rattle.rely_inputs.proofs.laws.members.Goals as goal

pub returns : goal.returns
returns c = members
