use Rattle.std.proofs.Common.{◌≡◌, ◌<◌, ◌≤◌}
use Rattle.chisel_debit.specs.Debits.{low}
use Rattle.chisel_debit.proofs.bound.BudgetWalkWalk.answer.Given as goal

abbrev pub invariant-loop-steps : goal.invariant-loop-steps
invariant-loop-steps l = record {
  base : l.self.base ≡ l.fn.self.base;
  steps : l.self.steps ≡ l.steps;
  ahead : 0 < l.steps → l.bound ≤ low l.fn.self.base l.steps;
}
