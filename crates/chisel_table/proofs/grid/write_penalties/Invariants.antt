use Rattle.chisel_table.specs.Grid.{Holds, penalty_to}
use Rattle.chisel_table.proofs.grid.write_penalties.Given as goal

abbrev pub invariant-loop-i : goal.invariant-loop-i
invariant-loop-i l = Holds l.t (penalty_to l.t l.l l.i) l.grid
