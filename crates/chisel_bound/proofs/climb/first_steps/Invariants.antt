use Rattle.std.proofs.Common.{◌≡◌}
use Rattle.chisel_table.specs.Sums.{list_to}
use Rattle.chisel_bound.specs.Ascent.{first_step}
use Rattle.chisel_bound.proofs.climb.first_steps.Given as goal

abbrev pub invariant-loop-i : goal.invariant-loop-i
invariant-loop-i l = l.steps.items ≡ list_to l.i (first_step l.t)
