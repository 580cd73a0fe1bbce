use Rattle.std.proofs.Common.{◌≡◌, ℕ, ◌<◌, ◌≤◌, length}
use Rattle.rely_parser.specs.State.{state_of}
use Rattle.rely_parser.specs.Units.{body_of, body_at}
use Rattle.rely_parser.proofs.Blocks.{with_stmts}
use Rattle.rely_parser.proofs.unit.body.Given as goal

abbrev pub invariant-loop-after : goal.invariant-loop-after
invariant-loop-after l = record {
  shorter : length l.rest.toks.now ≤ length l.fn.at.toks.now;
  fuel : ℕ;
  enough : length l.rest.toks.now < fuel;
  same : with_stmts l.all.items (body_of l.text fuel (state_of l.rest)) ≡ body_at l.text (state_of l.fn.at);
}

abbrev pub decreases-loop-after : goal.decreases-loop-after
decreases-loop-after l = length l.rest.toks.now
