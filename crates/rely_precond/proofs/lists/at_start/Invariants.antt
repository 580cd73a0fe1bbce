use Rattle.std.proofs.Common.{◌≡◌, take, map}
use Rattle.rely_kernel.specs.Paths.{at_start}
use Rattle.rely_precond.proofs.lists.at_start.Given as goal

abbrev pub invariant-loop-c : goal.invariant-loop-c
invariant-loop-c l = l.list.items ≡ map (at_start l.k) (take l.c-index l.conjs)
