use Rattle.std.proofs.Common.{◌≡◌, ℕ, ◌<◌, false}
use Rattle.std.specs.Prelude.{int_lt}
use Rattle.chisel_bound.specs.BoundsAt.{bounds_at}
use Rattle.chisel_bound.proofs.keeping.first_value_above.Given as goal

abbrev pub invariant-loop-j : goal.invariant-loop-j
invariant-loop-j l = (k : ℕ) → k < l.j → int_lt l.limit (bounds_at l.bounds k).value ≡ false
