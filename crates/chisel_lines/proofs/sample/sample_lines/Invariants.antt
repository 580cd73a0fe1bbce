use Rattle.std.proofs.Common.{◌≡◌, ◌+◌, ◌++◌, drop}
use Rattle.chisel_lines.specs.SampleLines.{sample_lines}
use Rattle.chisel_lines.proofs.sample.sample_lines.Given as goal

abbrev pub invariant-loop-i : goal.invariant-loop-i
invariant-loop-i l = sample_lines l.trials 1 l.ends ≡ l.text.items ++ sample_lines l.trials (l.i + 1) (drop l.i l.ends)
