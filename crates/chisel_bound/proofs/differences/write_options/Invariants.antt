use Rattle.chisel_bound.specs.Written.{WritesOptions}
use Rattle.chisel_bound.proofs.differences.write_options.Given as goal

abbrev pub invariant-loop-o : goal.invariant-loop-o
invariant-loop-o l = WritesOptions l.energies l.penalties l.from l.o l.fn.added l.added
