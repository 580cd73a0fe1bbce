use Rattle.std.proofs.Common.{ℕ, ◌<◌}
use lib.IntN.{pos}
use lib.Signed.{◌≤ℤ◌}
use Rattle.chisel_table.specs.Choices.{spent}
use Rattle.chisel_table.specs.Tables.{budget_at}
use Rattle.chisel_table.proofs.choice.options_meet.Given as goal

abbrev pub invariant-loop-i : goal.invariant-loop-i
invariant-loop-i l = (k : ℕ) → k < l.i → pos (spent l.t k l.options) ≤ℤ budget_at l.t k
