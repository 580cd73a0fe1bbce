use Rattle.std.proofs.Common.{◌≡◌}
use Rattle.rely_num.specs.Rounded.{mul_lo, lo_pow}
use Rattle.rely_kernel.specs.Rates.{rates}
use Rattle.rely_verdict.specs.Judged.{lo}
use Rattle.rely_verdict.proofs.Steps.{rest}
use Rattle.rely_verdict.proofs.product.lower.Given as goal

abbrev pub invariant-loop-label : goal.invariant-loop-label
invariant-loop-label l =
    rest (λ a q. mul_lo a (lo_pow q.0 q.1)) (rates l.h l.k l.t) l.conjunct.counts l.product l.label ≡ lo (rates l.h l.k l.t) l.conjunct
