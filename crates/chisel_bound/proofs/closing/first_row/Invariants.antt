use Rattle.std.proofs.Common.{◌≡◌, ℕ, ◌<◌, false}
use Rattle.chisel_table.specs.Closings.{row_closes}
use Rattle.chisel_bound.proofs.closing.first_row.Given as goal

abbrev pub invariant-loop-i : goal.invariant-loop-i
invariant-loop-i l = (k : ℕ) → k < l.i → row_closes l.t l.p k ≡ false
