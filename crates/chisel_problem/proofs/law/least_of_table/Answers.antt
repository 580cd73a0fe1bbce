use Rattle.chisel_problem.proofs.Bounds.{budgets_keep_claims}
use Rattle.chisel_problem.proofs.LeastLaws.{least_of_table}
use Rattle.chisel_problem.proofs.law.least_of_table.Goals as goal

pub returns-clause-least : goal.returns-clause-least
returns-clause-least c = least_of_table

pub returns-clause-bounds : goal.returns-clause-bounds
returns-clause-bounds c = budgets_keep_claims
