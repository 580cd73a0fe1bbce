use Rattle.chisel_bound.specs.Written.{WritesVector}
use Rattle.chisel_bound.proofs.differences.write_vector.Given as goal

abbrev pub invariant-loop-d : goal.invariant-loop-d
invariant-loop-d l = WritesVector l.t l.grid l.j l.d l.fn.added l.added
