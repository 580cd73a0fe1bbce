use Rattle.rely_faults.proofs.Reading.{more_words_are_left}
use Rattle.rely_faults.proofs.laws.more_words_are_left.Goals as goal

pub returns : goal.returns
returns c = more_words_are_left
