-- What is gone from `rest` was appended, each turn takes from it, and the calls go on.
use Rattle.std.proofs.Common.{◌≡◌, List, ℕ, ◌++◌, length}
use Rattle.std.specs.Io.KnownBytes.{Appends}
use Rattle.chisel_outside.specs.Device.{GainsSome, GoOn}
use Rattle.chisel_outside.proofs.host_sink.write_whole.Given as goal

abbrev pub invariant-loop-rest : goal.invariant-loop-rest
invariant-loop-rest g l = record {
  front : (done : List ℕ) × (l.initial.rest ≡ done ++ l.rest) × Appends (g.W.Writer.contents l.initial.out) (g.W.Writer.contents l.out) done;
  goes_on : GainsSome (g.W.Writer.answers l.initial.out) (g.W.Writer.answers l.out) GoOn;
}

abbrev pub decreases-loop-rest : goal.decreases-loop-rest
decreases-loop-rest g l = length l.rest
