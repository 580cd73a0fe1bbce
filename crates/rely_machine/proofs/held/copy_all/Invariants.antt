use Rattle.std.proofs.Common.{◌≡◌, ◌++◌, take, drop}
use Rattle.rely_machine.proofs.held.copy_all.Given as goal

abbrev pub invariant-loop-i : goal.invariant-loop-i
invariant-loop-i l = l.cells.items ≡ take l.i l.rows ++ drop l.i l.initial.cells.items
