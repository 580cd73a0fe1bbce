use Rattle.chisel_strategy.specs.Branching.{size}
use Rattle.chisel_strategy.proofs.Decisions.{is_largest}
use Rattle.chisel_strategy.proofs.Places.{is_first_least}
use Rattle.chisel_strategy.proofs.law.orders_take_the_first.Goals as goal

pub returns-clause-decision : goal.returns-clause-decision
returns-clause-decision c = λ t branch p b. is_largest t (size t branch) p b

pub returns-clause-place : goal.returns-clause-place
returns-clause-place c = is_first_least
