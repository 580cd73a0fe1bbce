use Rattle.std.proofs.Common.{◌≡◌, ◌++◌, drop}
use Rattle.chisel_cert.specs.Text.{spaced}
use Rattle.chisel_cert.proofs.writer.spaced.Given as goal

abbrev pub invariant-loop-n : goal.invariant-loop-n
invariant-loop-n l = l.out.items ++ spaced (drop l.n-index l.ns) ≡ l.initial.out.items ++ spaced l.ns
