use Rattle.std.proofs.Common.{◌≡◌, ℕ, ◌≤◌, length}
use Rattle.rely_num.specs.declared.word.Word.TheVariants as word
use Rattle.rely_tree.specs.Shape.{decl_shape}
use Rattle.rely_parser.specs.State.{state_of}
use Rattle.rely_parser.specs.Units.{each_behind, local_at, locals_at}
use Rattle.rely_parser.proofs.Lists.{with_front}
use Rattle.rely_parser.proofs.decl.locals.Given as goal

abbrev pub invariant-loop-after : goal.invariant-loop-after
invariant-loop-after l = record {
  shorter : length l.rest.toks.now ≤ length l.fn.at.toks.now;
  fuel : ℕ;
  enough : length l.rest.toks.now ≤ fuel;
  same : with_front decl_shape l.all.items (each_behind word.Var (local_at l.text) fuel (state_of l.rest)) ≡ locals_at l.text (state_of l.fn.at);
}

abbrev pub decreases-loop-after : goal.decreases-loop-after
decreases-loop-after l = length l.rest.toks.now
