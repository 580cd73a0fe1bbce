use Rattle.std.proofs.Common.{◌≡◌, false, ◌++◌, drop, List, ℕ}
use Rattle.chisel_top.specs.Telling.{joined}
use Rattle.chisel_top.specs.Promises.{Wrote}
use Rattle.chisel_top.proofs.tell.put_all.Given as goal

abbrev pub invariant-loop-piece : goal.invariant-loop-piece
invariant-loop-piece g l = record {
  front : List ℕ;
  whole : front ++ joined (drop l.piece-index l.pieces) ≡ joined l.pieces;
  wrote : Wrote (g.K.Sink.written l.initial.sink) (g.K.Sink.written l.sink) front;
  faults : g.K.Sink.faults l.sink ≡ g.K.Sink.faults l.initial.sink;
  late : g.K.Sink.faults l.initial.sink ≡ 0 → g.K.Sink.late l.initial.sink ≡ false → g.K.Sink.late l.sink ≡ false;
}
