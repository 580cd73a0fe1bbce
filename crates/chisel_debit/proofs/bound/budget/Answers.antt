use Rattle.std.proofs.Common.{arith}
use Rattle.chisel_debit.proofs.DebitLaws.{budget_counted}
use Rattle.chisel_debit.proofs.bound.budget.Goals as goal

pub returns-clause-counted : goal.returns-clause-counted
returns-clause-counted c = omega (arith, c.walk_to.ensures, budget_counted c.args.base c.args.bound)
