use Rattle.std.proofs.Common.{◌≡◌, sym, subst}
use Rattle.std.specs.Result.{IfOk, IfErr}
use Rattle.rely_precond.specs.Answers.{IsStop}
use Rattle.rely_precond.specs.Walk.{Walked, Stands}
use Rattle.rely_precond.proofs.standing.stand_again.Goals as goal

pub returns-clause-ok : goal.returns-clause-ok
returns-clause-ok c = subst (λ (w : Walked). IfOk c.worked.result (λ l. w ≡ Stands l.list.conjs l.work)) (sym c.worked.ensures.again) c.worked.ensures.ok

pub returns-clause-refused : goal.returns-clause-refused
returns-clause-refused c = subst (λ (w : Walked). IfErr c.worked.result (λ f. IsStop w f)) (sym c.worked.ensures.again) c.worked.ensures.refused
