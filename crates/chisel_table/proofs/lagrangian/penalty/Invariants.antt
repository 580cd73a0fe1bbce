use Rattle.std.proofs.Common.{◌≡◌, ◌*◌}
use Rattle.std.specs.Prelude.{slice_index}
use Rattle.chisel_table.specs.Sums.{sum_to}
use Rattle.chisel_table.specs.Tables.{spent_at}
use Rattle.chisel_table.proofs.lagrangian.penalty.Given as goal

abbrev pub invariant-loop-i : goal.invariant-loop-i
invariant-loop-i l = l.sum ≡ sum_to l.i (λ i. slice_index l.l i * spent_at l.t i l.decision l.option)
