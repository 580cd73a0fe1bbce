use Rattle.std.specs.Prelude.{length}
use Rattle.chisel_words.proofs.search.+given_by.Given as goal

abbrev pub decreases-given_by : goal.decreases-given_by
decreases-given_by l = length l.options.now
