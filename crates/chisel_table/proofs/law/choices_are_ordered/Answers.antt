use Rattle.chisel_table.proofs.Choices.{ordered, least_unique}
use Rattle.chisel_table.proofs.law.choices_are_ordered.Goals as goal

pub returns-clause-ordered : goal.returns-clause-ordered
returns-clause-ordered c = ordered

pub returns-clause-unique : goal.returns-clause-unique
returns-clause-unique c = least_unique
