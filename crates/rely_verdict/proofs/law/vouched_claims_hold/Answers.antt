use Rattle.rely_verdict.proofs.AllAccepted.{vouched_at_main, vouched_serve, each_vouched_holds}
use Rattle.rely_verdict.proofs.law.vouched_claims_hold.Goals as goal

pub returns-clause-main : goal.returns-clause-main
returns-clause-main c = vouched_at_main

pub returns-clause-reached : goal.returns-clause-reached
returns-clause-reached c = vouched_serve

pub returns-clause-each : goal.returns-clause-each
returns-clause-each c = each_vouched_holds
