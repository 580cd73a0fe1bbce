use Rattle.std.proofs.Common.{◌≡◌, ◌++◌, take, drop}
use Rattle.rely_predicate.proofs.list.overwrite.Given as goal

abbrev pub invariant-loop-i : goal.invariant-loop-i
invariant-loop-i l = l.list ≡ take l.i l.conjs ++ drop l.i l.fn.list
