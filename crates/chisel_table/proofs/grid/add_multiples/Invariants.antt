use Rattle.std.proofs.Common.{take}
use Rattle.chisel_table.specs.Grid.{Adds}
use Rattle.chisel_table.proofs.grid.add_multiples.Given as goal

abbrev pub invariant-loop-o : goal.invariant-loop-o
invariant-loop-o l = Adds l.fn.grid l.from l.multiplier (take l.o l.spent) l.grid
