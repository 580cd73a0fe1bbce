use Rattle.chisel_bench.proofs.Blocks.{AreRows}
use Rattle.chisel_bench.proofs.made.table.Given as goal

abbrev pub invariant-loop-i : goal.invariant-loop-i
invariant-loop-i l = AreRows l.shape l.i l.rows.items
