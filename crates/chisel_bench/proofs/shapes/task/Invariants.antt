use Rattle.chisel_bench.specs.Made.{IsShape}
use Rattle.chisel_bench.proofs.shapes.task.Given as goal

abbrev pub invariant-loop-word : goal.invariant-loop-word
invariant-loop-word l = IsShape l.task.shape
