use Rattle.chisel_optimise.proofs.Best.{checked_is_best, printed_is_best}
use Rattle.chisel_optimise.proofs.law.answers_are_best.Goals as goal

pub returns-clause-printed : goal.returns-clause-printed
returns-clause-printed c = printed_is_best

pub returns-clause-checked : goal.returns-clause-checked
returns-clause-checked c = checked_is_best
