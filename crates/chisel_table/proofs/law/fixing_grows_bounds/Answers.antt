use Rattle.chisel_table.proofs.Fixings.{bounds_grow}
use Rattle.chisel_table.proofs.law.fixing_grows_bounds.Goals as goal

pub returns : goal.returns
returns c = bounds_grow
