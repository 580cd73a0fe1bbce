use Rattle.std.proofs.Common.{ap, subst, ◌∙◌}
use Rattle.std.specs.Result.{IfErr}
use Rattle.rely_precond.specs.Answers.{IsStop}
use Rattle.rely_precond.specs.Walk.{Walked, multiply}
use Rattle.rely_precond.proofs.Stops.{multiply_goes}
use Rattle.rely_precond.proofs.turns.multiply.Goals as goal

pub returns-in-Ok-clause-refused : goal.returns-in-Ok-clause-refused
returns-in-Ok-clause-refused c =
    subst (λ (w : Walked). IfErr c.worked.result (λ f. IsStop w f))
    (multiply_goes c.args.at c.from.result c.args.by.now c.args.turned.list.conjs c.args.turned.work c.times.new.p.conjs (ap (λ p. p.conjs) c.in-Ok.ensures.ok)
    (λ t. let e = c.in-Ok.ensures.count.1 t in cc) ∙ ap (λ n. multiply c.args.at n c.args.by.now c.args.turned.list.conjs c.args.turned.work) c.from.ensures)
    c.worked.ensures.refused
