use Rattle.std.proofs.Common.{◌≡◌, take}
use Rattle.rely_predicate.specs.Shift.{plus, times}
use Rattle.rely_predicate.proofs.raise.add_times.Given as goal

abbrev pub invariant-loop-i : goal.invariant-loop-i
invariant-loop-i l = l.counts ≡ plus (times l.n (take l.i l.by)) l.fn.counts
