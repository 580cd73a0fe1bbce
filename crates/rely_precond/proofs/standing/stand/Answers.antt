use Rattle.rely_precond.proofs.Fewer.{few_added_is}
use Rattle.rely_precond.proofs.standing.stand.Goals as goal

pub worked-requires : goal.worked-requires
worked-requires c = few_added_is c.args.list.items c.in-Ok.p.conjs c.requires.few c.in-Ok.ensures.ok
