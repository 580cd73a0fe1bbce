use Rattle.std.proofs.Common.{◌≡◌, drop, map}
use Rattle.rely_predicate.specs.Shift.{times, raise}
use Rattle.rely_loops.specs.Grown.{too_many}
use Rattle.rely_loops.proofs.repeated.is_too_much.Given as goal

abbrev pub invariant-loop-c : goal.invariant-loop-c
invariant-loop-c l = too_many (map (raise (times l.n l.by)) l.conjs) ≡ too_many (map (raise (times l.n l.by)) (drop l.c-index l.conjs))
