use Rattle.std.proofs.Common.{◌≡◌}
use Rattle.rely_num.specs.Rounded.{mul_hi, hi_pow}
use Rattle.rely_kernel.specs.Rates.{rates}
use Rattle.rely_verdict.specs.Judged.{hi}
use Rattle.rely_verdict.proofs.Steps.{rest}
use Rattle.rely_verdict.proofs.product.upper.Given as goal

abbrev pub invariant-loop-label : goal.invariant-loop-label
invariant-loop-label l =
    rest (λ a q. mul_hi a (hi_pow q.0 q.1)) (rates l.h l.k l.t) l.conjunct.counts l.product l.label ≡ hi (rates l.h l.k l.t) l.conjunct
