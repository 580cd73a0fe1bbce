use Rattle.chisel_table.proofs.Closings.{first_close_holds, nothing_closes}
use Rattle.chisel_table.proofs.law.first_closes.Goals as goal

pub returns-clause-holds : goal.returns-clause-holds
returns-clause-holds c = first_close_holds

pub returns-clause-none : goal.returns-clause-none
returns-clause-none c = nothing_closes
