use Rattle.std.proofs.Common.{◌≡◌}
use Rattle.rely_num.specs.Ops.{op_of}
use Rattle.rely_num.proofs.Searches.{op_from}
use Rattle.rely_num.proofs.op.Op.of_text.Given as goal

abbrev pub invariant-loop-op : goal.invariant-loop-op
invariant-loop-op l = op_of l.text ≡ op_from l.text l.op-index
