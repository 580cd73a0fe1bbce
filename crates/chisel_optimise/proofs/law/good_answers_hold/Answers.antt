use Rattle.chisel_optimise.proofs.Promising.{keeps_promise}
use Rattle.chisel_optimise.proofs.law.good_answers_hold.Goals as goal

pub returns : goal.returns
returns c = keeps_promise
