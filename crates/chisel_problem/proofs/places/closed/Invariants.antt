use Rattle.std.proofs.Common.{◌≡◌, ◌+◌, ◌*◌, ◌≤◌, drop}
use Rattle.chisel_problem.specs.Places.{closed}
use Rattle.chisel_problem.proofs.places.closed.Given as goal

abbrev pub invariant-loop-place : goal.invariant-loop-place
invariant-loop-place l = record {
  bound : l.total ≤ 18446744073709551615 * l.place-index;
  rest : l.total + closed (drop l.place-index l.places) ≡ closed l.places;
}
