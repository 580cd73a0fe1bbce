use Rattle.std.proofs.Common.{◌≡◌, ◌≤◌, ◌-◌, length, drop}
use Rattle.rely_lexer.specs.Tokens.{tokens_behind}
use Rattle.rely_lexer.proofs.Behind.{with_front}
use Rattle.rely_lexer.proofs.lex.tokens_in.Given as goal

abbrev pub invariant-loop-at : goal.invariant-loop-at
invariant-loop-at l = (l.at ≤ length l.text) × (with_front l.tokens.items (tokens_behind (drop l.at l.text) 0 l.at) ≡ tokens_behind l.text 0 0)

abbrev pub decreases-loop-at : goal.decreases-loop-at
decreases-loop-at l = length l.text - l.at
