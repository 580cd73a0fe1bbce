use Rattle.std.proofs.Common.{◌≡◌, ◌++◌, drop}
use Rattle.chisel_problem.specs.Places.{opened}
use Rattle.chisel_problem.proofs.places.opened.Given as goal

abbrev pub invariant-loop-place : goal.invariant-loop-place
invariant-loop-place l = l.rows.items ++ opened (drop l.place-index l.places) ≡ opened l.places
