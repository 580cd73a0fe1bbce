use Rattle.std.proofs.Common.{◌≡◌, take}
use Rattle.chisel_bound.specs.BoundsAt.{greatest, values}
use Rattle.chisel_bound.proofs.bounds.greatest_value.Given as goal

abbrev pub invariant-loop-j : goal.invariant-loop-j
invariant-loop-j l = l.greatest ≡ greatest (values (take l.j l.bounds))
