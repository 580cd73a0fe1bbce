use Rattle.std.proofs.Common.{◌≡◌, length, slice_get, Some, arith}
use Rattle.std.proofs.lemmas.Option.{slice_get_read}
use Rattle.rely_verdict.specs.Judged.{outside}
use Rattle.rely_verdict.proofs.Steps.{first_here, first_later}
use Rattle.rely_verdict.proofs.conjuncts.first_outside.Goals as goal

pub returns-then-is_some : goal.returns-then-is_some
returns-then-is_some c =
    let cs = c.args.conjuncts.now in
    let at : slice_get cs c.loop-conjunct.conjunct-index ≡ Some c.conjunct-item.result = slice_get_read cs (length cs) c.loop-conjunct.conjunct-index c.conjunct-item.result (λ i. length cs) (omega arith) c.conjunct-item.is in
    let here = first_here (outside c.args.needs.bits) cs c.loop-conjunct.conjunct-index c.conjunct-item.result at cc in
    cc

pub loop-conjunct-preserved : goal.loop-conjunct-preserved
loop-conjunct-preserved c =
    let cs = c.args.conjuncts.now in
    let at : slice_get cs c.loop-conjunct.conjunct-index ≡ Some c.conjunct-item.result = slice_get_read cs (length cs) c.loop-conjunct.conjunct-index c.conjunct-item.result (λ i. length cs) (omega arith) c.conjunct-item.is in
    let later = first_later (outside c.args.needs.bits) cs c.loop-conjunct.conjunct-index c.conjunct-item.result at cc in
    cc
