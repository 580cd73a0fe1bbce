use Rattle.std.proofs.Common.{take}
use Rattle.chisel_run.proofs.Sampling.{Sampling}
use Rattle.chisel_run.proofs.samples.samples.Given as goal

abbrev pub invariant-loop-start : goal.invariant-loop-start
invariant-loop-start l = Sampling l.ready l.trials (take l.start-index l.starts) l.outcomes.items l.ends.items l.course
