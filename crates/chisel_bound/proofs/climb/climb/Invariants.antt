use Rattle.std.proofs.Common.{◌≡◌}
use Rattle.chisel_bound.specs.Ascent.{vector_after}
use Rattle.chisel_bound.proofs.climb.climb.Given as goal

abbrev pub invariant-loop-done : goal.invariant-loop-done
invariant-loop-done l = l.l ≡ vector_after l.t l.done
