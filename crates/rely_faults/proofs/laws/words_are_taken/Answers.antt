use Rattle.rely_faults.proofs.Taking.{words_are_taken}
use Rattle.rely_faults.proofs.laws.words_are_taken.Goals as goal

pub returns : goal.returns
returns c = words_are_taken
