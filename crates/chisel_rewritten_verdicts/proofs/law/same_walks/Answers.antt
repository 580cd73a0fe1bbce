use Rattle.chisel_rewritten_verdicts.proofs.SameWalks.{same_walks}
use Rattle.chisel_rewritten_verdicts.proofs.law.same_walks.Goals as goal

pub returns : goal.returns
returns c = same_walks
