use Rattle.std.proofs.Common.{arith}
use Rattle.rely_lexer.proofs.Pieces.{gap_length-within, token_piece-within}
use Rattle.rely_lexer.proofs.front.piece_of.Goals as goal

pub returns-then-gap-gt0-clause-within : goal.returns-then-gap-gt0-clause-within
returns-then-gap-gt0-clause-within c = (omega arith, omega (arith, gap_length-within c.args.text.now c.requires))

pub returns-else-gap-gt0-clause-within : goal.returns-else-gap-gt0-clause-within
returns-else-gap-gt0-clause-within c = rw c.token_piece.ensures (token_piece-within c.args.text.now c.requires)
