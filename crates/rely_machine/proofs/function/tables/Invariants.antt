use Rattle.std.proofs.Common.{◌≡◌, map, take}
use Rattle.rely_machine.specs.Table.{body_table, entries}
use Rattle.rely_machine.proofs.function.tables.Given as goal

abbrev pub invariant-loop-k : goal.invariant-loop-k
invariant-loop-k l = map entries l.tables.items ≡ map body_table (take l.k-index l.k-items)
