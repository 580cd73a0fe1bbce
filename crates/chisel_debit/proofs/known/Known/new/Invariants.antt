use Rattle.std.proofs.Common.{◌≡◌, ◌≤◌, ◌<◌, ℕ, length}
use Rattle.std.specs.Prelude.{slice_index}
use Rattle.chisel_debit.proofs.known.Known.new.Given as goal

abbrev pub invariant-loop-i : goal.invariant-loop-i
invariant-loop-i g l = record {
  base : g.W.Walk.base_of l.walk ≡ l.base;
  inside : l.i ≤ length l.numbers.items;
  sized : length l.answers.items ≡ length l.numbers.items;
  walked : (k : ℕ) → l.i ≤ k → k < length l.numbers.items → slice_index l.answers.items k ≡ g.W.Walk.answer_of l.base (slice_index l.numbers.items k);
  ahead : (j : ℕ) → j < l.i → g.W.Walk.is_ahead l.walk (slice_index l.numbers.items j);
}
