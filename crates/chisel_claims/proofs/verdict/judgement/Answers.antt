use Rattle.chisel_claims.proofs.Claiming.{stops_limited}
use Rattle.chisel_claims.proofs.verdict.judgement.Goals as goal

pub returns-in-Err-clause-err : goal.returns-in-Err-clause-err
returns-in-Err-clause-err c = stops_limited c.args.h.now c.args.k.now c.args.t.now c.args.c.now c.in-Err.fault c.in-Err.ensures.refused
