use Rattle.chisel_table.proofs.Closings.{closes_better}
use Rattle.chisel_table.proofs.law.better_closes.Goals as goal

pub returns : goal.returns
returns c = closes_better
