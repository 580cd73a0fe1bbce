use Rattle.std.proofs.Common.{sym, ap, ◌∙◌}
use Rattle.rely_predicate.specs.Shift.{times, raise}
use Rattle.rely_loops.specs.Grown.{too_many}
use Rattle.std.proofs.Common.{map}
use Rattle.rely_loops.proofs.Growing.{stay_below}
use Rattle.rely_loops.proofs.repeated.times.Goals as goal

pub raise-requires-clause-below : goal.raise-requires-clause-below
raise-requires-clause-below c =
    stay_below c.args.n c.args.by.now c.args.p.now.conjs
    (ap (λ cs. too_many (map (raise (times c.args.n c.args.by.now)) cs)) (sym c.conjs.ensures.value) ∙ sym c.is_too_much.ensures ∙ c.if-is_too_much.false)
