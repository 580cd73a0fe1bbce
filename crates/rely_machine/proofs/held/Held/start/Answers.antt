use Rattle.rely_machine.proofs.Holding.{fresh_is}
use Rattle.rely_machine.proofs.held.Held.start.Goals as goal

pub returns : goal.returns
returns c = λ k valid same long. fresh_is k c.args.vars.now c.args.arguments.now c.start_all.new.cells.items c.in_ok-start_all.ensures valid same long
