use Rattle.chisel_optimise.proofs.Within.{printed_pooled, printed_within}
use Rattle.chisel_optimise.proofs.law.printed_has_text.Goals as goal

pub returns-clause-within : goal.returns-clause-within
returns-clause-within c = printed_within

pub returns-clause-pooled : goal.returns-clause-pooled
returns-clause-pooled c = printed_pooled
