use Rattle.chisel_bound.specs.Weights.{IsLeastPlace, weighed}
use Rattle.chisel_bound.proofs.weights.least_option.Given as goal

abbrev pub invariant-loop-o : goal.invariant-loop-o
invariant-loop-o l = IsLeastPlace l.o (weighed l.scale l.energies l.penalties) l.least
