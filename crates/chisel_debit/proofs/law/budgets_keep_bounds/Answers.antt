use Rattle.chisel_debit.proofs.BudgetLaws.{budgets_keep}
use Rattle.chisel_debit.proofs.law.budgets_keep_bounds.Goals as goal

pub returns : goal.returns
returns c = budgets_keep
