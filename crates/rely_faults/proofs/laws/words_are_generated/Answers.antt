use Rattle.rely_faults.proofs.Reading.{words_are_generated}
use Rattle.rely_faults.proofs.laws.words_are_generated.Goals as goal

pub returns : goal.returns
returns c = words_are_generated
