use Rattle.std.proofs.Common.{◌≡◌, drop}
use Rattle.rely_verdict.specs.Judged.{first_outside}
use Rattle.rely_verdict.proofs.conjuncts.first_outside.Given as goal

abbrev pub invariant-loop-conjunct : goal.invariant-loop-conjunct
invariant-loop-conjunct l = first_outside l.needs.bits (drop l.conjunct-index l.conjuncts) ≡ first_outside l.needs.bits l.conjuncts
