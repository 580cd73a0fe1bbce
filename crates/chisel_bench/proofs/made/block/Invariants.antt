use Rattle.chisel_bench.specs.Made.{IsBlock}
use Rattle.chisel_bench.proofs.made.block.Given as goal

abbrev pub invariant-loop-d : goal.invariant-loop-d
invariant-loop-d l = IsBlock l.shape.options l.d l.block.items
