use Rattle.std.proofs.Common.{◌≡◌, ◌<◌, ◌^◌, drop}
use Rattle.rely_num.specs.AttoTexts.{number_of}
use Rattle.rely_lexer.proofs.Numbers.{number_behind}
use Rattle.rely_lexer.proofs.front.whole_piece.Given as goal

abbrev pub invariant-loop-byte : goal.invariant-loop-byte
invariant-loop-byte l = (l.value < 2 ^ 63) × (number_behind l.value (drop l.byte-index l.digits) ≡ number_of l.digits)
