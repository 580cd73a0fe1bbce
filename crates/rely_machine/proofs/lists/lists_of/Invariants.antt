use Rattle.std.proofs.Common.{◌≡◌, take}
use Rattle.rely_machine.proofs.lists.lists_of.Given as goal

abbrev pub invariant-loop-row : goal.invariant-loop-row
invariant-loop-row g l = l.lists.items ≡ take l.row-index l.rows
