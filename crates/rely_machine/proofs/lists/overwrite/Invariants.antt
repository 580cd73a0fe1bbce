use Rattle.std.proofs.Common.{◌≡◌, ◌++◌, take, drop}
use Rattle.rely_machine.proofs.lists.overwrite.Given as goal

abbrev pub invariant-loop-i : goal.invariant-loop-i
invariant-loop-i g l = l.row ≡ take l.i l.items ++ drop l.i l.fn.row
