use Rattle.std.proofs.Common.{◌≡◌, ◌+◌, drop, map}
use Rattle.chisel_claims.specs.Needs.{first_needs}
use Rattle.chisel_claims.proofs.needs.first_needs.Given as goal

abbrev pub invariant-loop-i : goal.invariant-loop-i
invariant-loop-i l =
    first_needs 1 l.claims (map (λ p. p.conjs) l.predicates) ≡ first_needs (l.i + 1) (drop l.i l.claims) (map (λ p. p.conjs) (drop l.i l.predicates))
