use Rattle.std.proofs.Common.{rules}
use Rattle.rely_machine.proofs.Holding.{write_is}
use Rattle.rely_machine.proofs.held.Held.write.Goals as goal

pub returns : goal.returns
returns c = write_is c.self.inside.cells.items c.self.inside.result c.args.self.now c.args.v c.args.z _ c.index_mut.result.now c.set.new.self c.self.view_is c.requires c.index_mut.ensures.value c.set.ensures (search rules)
