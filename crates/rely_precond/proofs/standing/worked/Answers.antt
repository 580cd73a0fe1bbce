use Rattle.rely_precond.proofs.Stops.{stand_own}
use Rattle.rely_precond.proofs.standing.worked.Goals as goal

pub returns-clause-again : goal.returns-clause-again
returns-clause-again c = stand_own c.args.at c.args.list.conjs c.args.work c.requires c.conjs.ensures.valid.own_top c.conjs.ensures.valid.short

pub returns-then-more-gt-MOST_WORK-clause-again : goal.returns-then-more-gt-MOST_WORK-clause-again
returns-then-more-gt-MOST_WORK-clause-again c = stand_own c.args.at c.args.list.conjs c.args.work c.requires c.conjs.ensures.valid.own_top c.conjs.ensures.valid.short
