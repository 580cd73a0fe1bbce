use Rattle.std.proofs.Common.{◌≡◌, drop}
use lib.Pointwise.{pointwise}
use Rattle.rely_predicate.specs.Shift.{raise}
use Rattle.rely_predicate.specs.Top.{same}
use Rattle.rely_loops.proofs.growth.have_grown.Given as goal

abbrev pub invariant-loop-i : goal.invariant-loop-i
invariant-loop-i l = pointwise (λ a b. same (raise l.by a) b) l.before l.after ≡ pointwise (λ a b. same (raise l.by a) b) (drop l.i l.before) (drop l.i l.after)
