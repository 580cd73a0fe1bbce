use Rattle.rely_machine.proofs.Tables.{no_zero}
use Rattle.rely_machine.proofs.live.is_zero.Goals as goal

pub returns-in-Read-2 : goal.returns-in-Read-2
returns-in-Read-2 c = no_zero c.args.e.now c.in-Read.is

pub returns-in-Read-3 : goal.returns-in-Read-3
returns-in-Read-3 c = no_zero c.args.e.now c.in-Read.is
