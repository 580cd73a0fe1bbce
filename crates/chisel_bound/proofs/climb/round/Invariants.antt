use Rattle.chisel_bound.proofs.Ascents.{HalfMoved}
use Rattle.chisel_bound.proofs.climb.round.Given as goal

abbrev pub invariant-loop-i : goal.invariant-loop-i
invariant-loop-i l = HalfMoved l.t l.number l.fn.l l.i l.l
