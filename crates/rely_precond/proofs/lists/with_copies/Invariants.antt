use Rattle.std.proofs.Common.{◌≡◌, ◌++◌, take}
use Rattle.rely_precond.proofs.lists.with_copies.Given as goal

abbrev pub invariant-loop-c : goal.invariant-loop-c
invariant-loop-c l = l.longer.items ≡ l.fn.list.items ++ take l.c-index l.conjs
