use Rattle.chisel_claims.proofs.Claiming.{given_fits}
use Rattle.chisel_claims.proofs.reached.callee_on.Goals as goal

pub judgement-requires-clause-fits : goal.judgement-requires-clause-fits
judgement-requires-clause-fits c = given_fits _ _ _ c.in_ok-setting.ensures c.requires.on c.requires.closed
