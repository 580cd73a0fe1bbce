use Rattle.std.proofs.Common.{◌≡◌, ◌++◌, take, drop, length, replicate}
use Rattle.rely_machine.proofs.lists.fill.Given as goal

abbrev pub invariant-loop-i : goal.invariant-loop-i
invariant-loop-i g l = l.row ≡ take l.i (replicate (length l.fn.row) l.item) ++ drop l.i l.fn.row
