use Rattle.chisel_verify.proofs.Promising.{keeps_promise}
use Rattle.chisel_verify.proofs.law.accepted_lines_hold.Goals as goal

pub returns : goal.returns
returns c = keeps_promise
