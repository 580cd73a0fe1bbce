-- What was read so far is kept, each turn adds to it, and the calls go on.
use Rattle.std.proofs.Common.{◌+◌, ◌-◌, ◌≤◌, vec_len, vec_items}
use Rattle.std.specs.Io.KnownBytes.{Consumes}
use Rattle.chisel_outside.specs.Device.{GainsSome, GoOn}
use Rattle.chisel_outside.proofs.host_shelf.read_up_to.Given as goal

abbrev pub invariant-loop-piece : goal.invariant-loop-piece
invariant-loop-piece g l = record {
  few : vec_len l.bytes ≤ l.limit + 1;
  consumed : Consumes (g.R.Reader.remaining l.initial.file) (g.R.Reader.remaining l.file) (vec_items l.bytes);
  goes_on : GainsSome (g.R.Reader.answers l.initial.file) (g.R.Reader.answers l.file) GoOn;
}

abbrev pub decreases-loop-piece : goal.decreases-loop-piece
decreases-loop-piece g l = l.limit + 1 - vec_len l.bytes
