-- Interrupted writes take nothing.
use Rattle.std.specs.Io.KnownBytes.{Keeps}
use Rattle.chisel_outside.proofs.DeviceLaws.{Tried}
use Rattle.chisel_outside.proofs.host_sink.write_some.Given as goal

abbrev pub invariant-loop : goal.invariant-loop
invariant-loop g l = record {
  keeps : Keeps (g.W.Writer.contents l.initial.out) (g.W.Writer.contents l.out);
  tried : Tried (g.W.Writer.answers l.initial.out) (g.W.Writer.answers l.out) l.counter;
}
