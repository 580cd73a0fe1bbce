use Rattle.std.proofs.Common.{◌≡◌, ℕ, ◌-◌, ◌+◌, ◌*◌, ◌<◌, ◌≤◌, length}
use Rattle.rely_tree.specs.Shape.{expr_shape}
use Rattle.rely_parser.specs.State.{state_of}
use Rattle.rely_parser.specs.Grammar.{more_at, level_at, bracketed}
use Rattle.rely_parser.proofs.expr.+expr.Given as goal

abbrev pub decreases-bracketed : goal.decreases-bracketed
decreases-bracketed l = 20 * length l.at.toks.now + 9

abbrev pub decreases-variable : goal.decreases-variable
decreases-variable l = 20 * length l.at.toks.now

abbrev pub decreases-prim : goal.decreases-prim
decreases-prim l = 20 * length l.at.toks.now

abbrev pub decreases-level : goal.decreases-level
decreases-level l = 20 * length l.at.toks.now + 1 + l.loose

abbrev pub invariant-level-loop-op : goal.invariant-level-loop-op
invariant-level-loop-op l = record {
  shorter : length l.rest.toks.now < length l.fn.at.toks.now;
  positive : 0 < l.loose;
  fuel : ℕ;
  enough : length l.rest.toks.now ≤ fuel;
  same :
      more_at l.text l.loose (level_at l.text (bracketed l.text l.deep) (l.loose - 1)) fuel (expr_shape l.left) (state_of l.rest)
      ≡ level_at l.text (bracketed l.text l.deep) l.loose (state_of l.fn.at);
}

abbrev pub decreases-level-loop-op : goal.decreases-level-loop-op
decreases-level-loop-op l = length l.rest.toks.now
