use Rattle.std.proofs.Common.{◌≡◌, drop, take}
use Rattle.std.specs.List.{AllZip}
use Rattle.rely_precond.specs.Answers.{IsPredicateOf}
use Rattle.chisel_claims.specs.Needs.{first_limit}
use Rattle.chisel_claims.proofs.needs.predicates.Given as goal

abbrev pub invariant-loop-claim : goal.invariant-loop-claim
invariant-loop-claim l = record {
  each : AllZip (λ c p. IsPredicateOf l.k c.target p) (take l.claim-index l.k.claims) l.predicates.items;
  same : first_limit l.k l.k.claims ≡ first_limit l.k (drop l.claim-index l.k.claims);
}
