use Rattle.std.proofs.Common.{◌≡◌, ℕ, ◌<◌, false}
use Rattle.std.specs.Prelude.{int_lt}
use lib.IntN.{pos}
use Rattle.chisel_bound.specs.Rows.{excess_at}
use Rattle.chisel_bound.proofs.keeping.first_row_above.Given as goal

abbrev pub invariant-loop-i : goal.invariant-loop-i
invariant-loop-i l = (k : ℕ) → k < l.i → int_lt (pos 0) (excess_at l.excesses k) ≡ false
