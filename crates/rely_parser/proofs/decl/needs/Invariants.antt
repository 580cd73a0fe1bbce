use Rattle.std.proofs.Common.{◌≡◌, ℕ, ◌<◌, ◌≤◌, length}
use Rattle.rely_tree.specs.Shape.{ident_shape}
use Rattle.rely_parser.specs.State.{state_of}
use Rattle.rely_parser.specs.State.{name_at}
use Rattle.rely_parser.specs.Statements.{list_of}
use Rattle.rely_parser.proofs.Lists.{with_front, next_of}
use Rattle.rely_parser.proofs.decl.needs.Given as goal

abbrev pub invariant-loop-all : goal.invariant-loop-all
invariant-loop-all l = record {
  within : length l.rest.toks.now ≤ length l.fn.at.toks.now;
  fuel : ℕ → ℕ;
  enough : (n : ℕ) → n < length l.rest.toks.now → n < fuel n;
  same :
      with_front ident_shape l.all.items (next_of (name_at l.text) fuel (state_of l.rest))
      ≡ list_of (name_at l.text) (state_of l.fn.at);
}

abbrev pub decreases-loop-all : goal.decreases-loop-all
decreases-loop-all l = length l.rest.toks.now
