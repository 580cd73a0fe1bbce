use Rattle.std.proofs.Common.{sym, arith}
use Rattle.chisel_debit.proofs.Powers.{up_none}
use Rattle.chisel_debit.proofs.reliability.DebitWalkWalk.new.Goals as goal

pub invariant_of-result-2 : goal.invariant_of-result-2
invariant_of-result-2 c = record { reached = sym (up_none c.args.base); counted = omega arith }
