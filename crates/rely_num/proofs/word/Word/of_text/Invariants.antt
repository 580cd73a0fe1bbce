use Rattle.std.proofs.Common.{◌≡◌}
use Rattle.rely_num.specs.Texts.{word_of}
use Rattle.rely_num.proofs.Searches.{word_from}
use Rattle.rely_num.proofs.word.Word.of_text.Given as goal

abbrev pub invariant-loop-word : goal.invariant-loop-word
invariant-loop-word l = word_of l.text ≡ word_from l.text l.word-index
