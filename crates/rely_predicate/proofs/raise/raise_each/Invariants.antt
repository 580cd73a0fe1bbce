use Rattle.std.proofs.Common.{◌≡◌, ◌++◌, map, take, drop}
use Rattle.rely_predicate.specs.Shift.{times, raise}
use Rattle.rely_predicate.proofs.raise.raise_each.Given as goal

abbrev pub invariant-loop-c : goal.invariant-loop-c
invariant-loop-c l = l.conjs ≡ map (raise (times l.n l.by)) (take l.c-index l.fn.conjs) ++ drop l.c-index l.fn.conjs
