use Rattle.rely_precond.proofs.Stops.{few_found, few_wide}
use Rattle.rely_precond.proofs.standing.of_few.Goals as goal

pub unreachable-requires : goal.unreachable-requires
unreachable-requires c = few_wide c.args.list.items c.requires.few (c.in-Err-Wide.ensures.wide c.in-Err-Wide.field-0-is)

pub returns-in-Ok-clause-ok : goal.returns-in-Ok-clause-ok
returns-in-Ok-clause-ok c = few_found c.args.list.items c.in-Ok.p.conjs c.requires.few c.in-Ok.ensures.ok
