use Rattle.std.proofs.Common.{◌≡◌, drop, fold, map, min}
use Rattle.rely_num.specs.Bounds.{S}
use Rattle.rely_kernel.specs.Rates.{rates}
use Rattle.rely_verdict.specs.Judged.{lo}
use Rattle.rely_verdict.proofs.conjuncts.least.Given as goal

abbrev pub invariant-loop-conjunct : goal.invariant-loop-conjunct
invariant-loop-conjunct l =
    fold min l.least (map (lo (rates l.h l.k l.t)) (drop l.conjunct-index l.conjuncts)) ≡ fold min S (map (lo (rates l.h l.k l.t)) l.conjuncts)
