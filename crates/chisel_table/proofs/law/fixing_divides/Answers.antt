use Rattle.chisel_table.proofs.Fixings.{divides, nothing_is_all}
use Rattle.chisel_table.proofs.law.fixing_divides.Goals as goal

pub returns-clause-all : goal.returns-clause-all
returns-clause-all c = nothing_is_all

pub returns-clause-divided : goal.returns-clause-divided
returns-clause-divided c = divides
