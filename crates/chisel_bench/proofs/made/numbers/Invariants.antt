use Rattle.chisel_bench.specs.Made.{AreNumbers}
use Rattle.chisel_bench.proofs.made.numbers.Given as goal

abbrev pub invariant-loop-option : goal.invariant-loop-option
invariant-loop-option l = AreNumbers l.option l.numbers.items
