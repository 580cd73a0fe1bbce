use Rattle.std.proofs.Common.{◌≡◌, ◌++◌}
use Rattle.chisel_make.specs.Draws.{after}
use Rattle.chisel_make.specs.Made.{statements}
use Rattle.chisel_make.proofs.made.statements.Given as goal

abbrev pub invariant-loop-left : goal.invariant-loop-left
invariant-loop-left l =
    (statements l.initial.size l.initial.draws.state ≡ l.text.items ++ statements l.left l.draws.state)
    × (after l.initial.size l.initial.draws.state ≡ after l.left l.draws.state)

abbrev pub decreases-loop-left : goal.decreases-loop-left
decreases-loop-left l = l.left
