use Rattle.chisel_rewritten_verdicts.proofs.SamePaths.{paths_same}
use Rattle.chisel_rewritten_verdicts.proofs.law.same_paths.Goals as goal

pub returns : goal.returns
returns c = paths_same
