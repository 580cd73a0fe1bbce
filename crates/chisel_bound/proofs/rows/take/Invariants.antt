use Rattle.std.proofs.Common.{◌≡◌, ℕ, ◌<◌, ◌≤◌}
use Rattle.std.specs.Prelude.{slice_index}
use lib.IntN.{pos, ◌-ℤ◌}
use Rattle.chisel_bound.specs.Rows.{excess_at}
use Rattle.chisel_bound.proofs.rows.take.Given as goal

abbrev pub invariant-loop-i : goal.invariant-loop-i
invariant-loop-i l = record {
  done : (k : ℕ) → k < l.i → excess_at l.excesses k ≡ excess_at l.fn.excesses k -ℤ pos (slice_index l.column k);
  left : (k : ℕ) → l.i ≤ k → excess_at l.excesses k ≡ excess_at l.fn.excesses k;
}
