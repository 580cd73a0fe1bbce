use Rattle.std.proofs.Common.{◌≡◌}
use Rattle.chisel_table.specs.Sums.{list_to}
use Rattle.chisel_bound.specs.Columns.{above_least}
use Rattle.chisel_bound.proofs.columns.column.Given as goal

abbrev pub invariant-loop-i : goal.invariant-loop-i
invariant-loop-i l = l.column.items ≡ list_to l.i (above_least l.t l.decision l.option)
