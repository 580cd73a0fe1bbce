use Rattle.rely_verdict.proofs.AllAccepted.{reached_accepted, each_reached_holds, accepted_holds, met_holds}
use Rattle.rely_verdict.proofs.law.accepted_claims_hold.Goals as goal

pub returns-clause-reached : goal.returns-clause-reached
returns-clause-reached c = reached_accepted

pub returns-clause-each : goal.returns-clause-each
returns-clause-each c = each_reached_holds

pub returns-clause-main : goal.returns-clause-main
returns-clause-main c = accepted_holds

pub returns-clause-met : goal.returns-clause-met
returns-clause-met c = met_holds
