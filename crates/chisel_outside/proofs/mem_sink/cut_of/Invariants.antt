use Rattle.std.proofs.Common.{◌≡◌, drop}
use Rattle.chisel_outside.specs.Memory.{cut_at}
use Rattle.chisel_outside.proofs.mem_sink.cut_of.Given as goal

abbrev pub invariant-loop-pair : goal.invariant-loop-pair
invariant-loop-pair l = cut_at l.number (drop l.pair-index l.failing) ≡ cut_at l.number l.failing
