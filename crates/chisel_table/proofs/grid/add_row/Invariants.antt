use Rattle.chisel_table.proofs.Grids.{HalfAdded}
use Rattle.chisel_table.proofs.grid.add_row.Given as goal

abbrev pub invariant-loop-d : goal.invariant-loop-d
invariant-loop-d l = HalfAdded l.t l.l l.row l.d l.grid
