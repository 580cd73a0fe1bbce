use Rattle.chisel_debit.proofs.DebitLaws.{budget_is_greatest_lem, budget_power}
use Rattle.chisel_debit.proofs.law.budget_is_greatest.Goals as goal

pub returns-clause-greatest : goal.returns-clause-greatest
returns-clause-greatest c = budget_is_greatest_lem

pub returns-clause-keeps : goal.returns-clause-keeps
returns-clause-keeps c = budget_power
