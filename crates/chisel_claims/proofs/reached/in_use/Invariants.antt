use Rattle.std.proofs.Common.{◌≡◌, ◌+◌, drop}
use Rattle.chisel_claims.specs.Verdicts.{in_use_from}
use Rattle.chisel_claims.proofs.reached.in_use.Given as goal

abbrev pub invariant-loop-i : goal.invariant-loop-i
invariant-loop-i l = in_use_from 1 l.claims ≡ in_use_from (l.i + 1) (drop l.i l.claims)
