use Rattle.chisel_table.proofs.Relaxation.{relaxed}
use Rattle.chisel_table.proofs.law.relaxation_is_bound.Goals as goal

pub returns : goal.returns
returns c = relaxed
