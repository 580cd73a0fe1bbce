use Rattle.std.proofs.Common.{◌≡◌, ◌++◌, drop}
use Rattle.chisel_cert.specs.Text.{spaced}
use Rattle.chisel_cert.proofs.writer.spaced_options.Given as goal

abbrev pub invariant-loop-option : goal.invariant-loop-option
invariant-loop-option l = l.out.items ++ spaced (drop l.option-index l.options) ≡ l.initial.out.items ++ spaced l.options
