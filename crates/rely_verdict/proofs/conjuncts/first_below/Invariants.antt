use Rattle.std.proofs.Common.{◌≡◌, drop, find, nat_lt}
use Rattle.rely_kernel.specs.Rates.{rates}
use Rattle.rely_verdict.specs.Judged.{hi}
use Rattle.rely_verdict.proofs.conjuncts.first_below.Given as goal

abbrev pub invariant-loop-conjunct : goal.invariant-loop-conjunct
invariant-loop-conjunct l =
    find (λ c. nat_lt (hi (rates l.h l.k l.t) c) l.bound) (drop l.conjunct-index l.conjuncts) ≡ find (λ c. nat_lt (hi (rates l.h l.k l.t) c) l.bound) l.conjuncts
