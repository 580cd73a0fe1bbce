use Rattle.rely_faults.proofs.Enough.{enough_words_end}
use Rattle.rely_faults.proofs.laws.enough_words_end.Goals as goal

pub returns : goal.returns
returns c = enough_words_end
