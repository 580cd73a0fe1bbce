use Rattle.std.proofs.Common.{◌≡◌, ℕ, ◌<◌, false}
use Rattle.std.specs.Prelude.{int_lt}
use lib.IntN.{pos}
use Rattle.chisel_bound.specs.BoundsAt.{bounds_at}
use Rattle.chisel_bound.proofs.keeping.first_excess_above.Given as goal

abbrev pub invariant-loop-j : goal.invariant-loop-j
invariant-loop-j l = (k : ℕ) → k < l.j → int_lt (pos 0) (bounds_at l.bounds k).excess ≡ false
