use Rattle.std.proofs.Common.{◌≡◌}
use Rattle.chisel_table.specs.Lagrangian.{row_excess}
use Rattle.chisel_table.specs.Partials.{nothing_fixed}
use Rattle.chisel_table.specs.Sums.{list_to}
use Rattle.chisel_bound.proofs.rows.RowSums.start.Given as goal

abbrev pub invariant-loop-i : goal.invariant-loop-i
invariant-loop-i l = l.excesses.items ≡ list_to l.i (λ i. row_excess l.t i (nothing_fixed l.t))
