use Rattle.std.proofs.Common.{◌≡◌, ℕ, ◌+◌, ◌*◌, ◌<◌, ◌≤◌, length}
use Rattle.rely_parser.specs.State.{state_of}
use Rattle.rely_parser.specs.Statements.{items_at, stmt_at}
use Rattle.rely_parser.proofs.Blocks.{with_stmts}
use Rattle.rely_parser.proofs.stmt.+stmt.Given as goal

abbrev pub decreases-block : goal.decreases-block
decreases-block l = 2 * length l.at.toks.now

abbrev pub decreases-braced : goal.decreases-braced
decreases-braced l = 2 * length l.at.toks.now + 1

abbrev pub decreases-choice : goal.decreases-choice
decreases-choice l = 2 * length l.at.toks.now

abbrev pub decreases-loop_repeat : goal.decreases-loop_repeat
decreases-loop_repeat l = 2 * length l.at.toks.now

abbrev pub decreases-loop_while : goal.decreases-loop_while
decreases-loop_while l = 2 * length l.at.toks.now

abbrev pub decreases-otherwise : goal.decreases-otherwise
decreases-otherwise l = 2 * length l.at.toks.now

abbrev pub decreases-stmt : goal.decreases-stmt
decreases-stmt l = 2 * length l.at.toks.now

abbrev pub invariant-braced-loop-after : goal.invariant-braced-loop-after
invariant-braced-loop-after l = record {
  shorter : length l.rest.toks.now ≤ length l.fn.at.toks.now;
  fuel : ℕ;
  enough : length l.rest.toks.now < fuel;
  same :
      with_stmts l.all.items (items_at (stmt_at l.text l.deep) fuel (state_of l.rest))
      ≡ items_at (stmt_at l.text l.deep) (length l.fn.at.toks.now + 1) (state_of l.fn.at);
}

abbrev pub decreases-braced-loop-after : goal.decreases-braced-loop-after
decreases-braced-loop-after l = length l.rest.toks.now
