use Rattle.chisel_claims.proofs.Claiming.{limit_there, predicates_more}
use Rattle.chisel_claims.proofs.needs.predicates.Goals as goal

pub loop-claim-preserved : goal.loop-claim-preserved
loop-claim-preserved c =
    let more = predicates_more c.args.k.now c.args.k.now.claims c.as_slice-claim-items.result.now c.loop-claim.claim-index _ c.claim-item.result c.as_slice-claim-items.ensures c.loop-claim-test.true c.claim-item.is
    c.loop-claim.predicates.items c.in-Ok.predicate c.loop-claim.invariant.each c.in-Ok.ensures.ok c.loop-claim.invariant.same in
    record { each = rw c.in_ok-push-in-Ok.ensures.items more.0; same = more.1 }

pub returns-in-Err-clause-err : goal.returns-in-Err-clause-err
returns-in-Err-clause-err c =
    limit_there c.args.k.now c.args.k.now.claims c.as_slice-claim-items.result.now c.loop-claim.claim-index _ c.claim-item.result c.as_slice-claim-items.ensures c.loop-claim-test.true c.claim-item.is
    c.in-Err.fault c.loop-claim.invariant.same c.in-Err.ensures.refused
