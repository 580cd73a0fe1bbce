use Rattle.std.proofs.Common.{◌+◌, ◌-◌, ◌*◌, ◌^◌, ◌≤◌, get_or, drop, arith}
use Rattle.std.proofs.lemmas.List.{at_drop_more}
use Rattle.std.proofs.lemmas.Bool.Decides.{nat_tests}
use Rattle.rely_num.specs.AttoTexts.{number_of}
use Rattle.rely_lexer.specs.Tokens.{whole_piece}
use Rattle.rely_lexer.proofs.Numbers.{number_behind, number_behind-above}
use Rattle.rely_lexer.proofs.front.whole_piece.Goals as goal

pub returns-then-value-digit : goal.returns-then-value-digit
unfolding whole_piece
returns-then-value-digit c =
    let digits = c.args.digits.now in
    let i = c.loop-byte.byte-index in
    let next = 10 * c.loop-byte.value + (get_or digits i 0 - 48) in
    let more = at_drop_more (number_behind c.loop-byte.value) digits i 0 (omega arith) in
    let above = number_behind-above (drop (i + 1) digits) next in
    let large : 2 ^ 63 ≤ number_of digits = omega arith in
    grind (arith, nat_tests)
