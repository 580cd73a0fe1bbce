use Rattle.std.proofs.Common.{take}
use Rattle.chisel_optimise.proofs.Sampling.{Sampled}
use Rattle.chisel_optimise.proofs.runs.outcomes.Given as goal

abbrev pub invariant-loop-start : goal.invariant-loop-start
invariant-loop-start l = Sampled l.l (take l.start-index l.starts) l.outcomes.items l.left
