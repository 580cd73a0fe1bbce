use Rattle.chisel_debit.proofs.DebitLaws.{debit_is_least_lem, debit_power}
use Rattle.chisel_debit.proofs.law.debit_is_least.Goals as goal

pub returns-clause-least : goal.returns-clause-least
returns-clause-least c = debit_is_least_lem

pub returns-clause-covers : goal.returns-clause-covers
returns-clause-covers c = debit_power
