use Rattle.std.proofs.Common.{rules}
use Rattle.rely_machine.proofs.Reading.{inner_valid, kernel_valid}
use Rattle.rely_machine.proofs.tally.rows_of.Goals as goal

pub labels-requires : goal.labels-requires
labels-requires c = inner_valid c.args.l.now c.loop-k.k-index c.k-item.result c.requires (search rules) (search rules)

pub labels-requires-2 : goal.labels-requires-2
labels-requires-2 c = kernel_valid c.args.l.now c.requires
