-- Interrupted reads take nothing, and the buffer keeps its length.
use Rattle.std.proofs.Common.{◌≡◌, length}
use Rattle.std.specs.Io.KnownBytes.{Keeps}
use Rattle.chisel_outside.proofs.DeviceLaws.{Tried}
use Rattle.chisel_outside.proofs.host_shelf.read_some.Given as goal

abbrev pub invariant-loop : goal.invariant-loop
invariant-loop g l = record {
  same : length l.piece ≡ length l.initial.piece;
  keeps : Keeps (g.R.Reader.remaining l.initial.file) (g.R.Reader.remaining l.file);
  tried : Tried (g.R.Reader.answers l.initial.file) (g.R.Reader.answers l.file) l.counter;
}
