use Rattle.chisel_claims.proofs.Holding.{callees_accepted, each_near, fails_unaccepted, function_holds, reached_hold}
use Rattle.chisel_claims.proofs.law.accepted_claims_hold.Goals as goal

pub returns-clause-callees : goal.returns-clause-callees
returns-clause-callees c = callees_accepted

pub returns-clause-reached : goal.returns-clause-reached
returns-clause-reached c = reached_hold

pub returns-clause-function : goal.returns-clause-function
returns-clause-function c = function_holds

pub returns-clause-failing : goal.returns-clause-failing
returns-clause-failing c = fails_unaccepted

pub returns-clause-near : goal.returns-clause-near
returns-clause-near c = each_near
