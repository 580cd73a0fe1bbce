use Rattle.std.proofs.Common.{◌<◌, length}
use Rattle.chisel_search.specs.Tournament.{IsJudgedBut, IsShaped, KeepsTree}
use Rattle.chisel_search.proofs.tournament.Tournament.climb.Given as goal

abbrev pub invariant-loop-place : goal.invariant-loop-place
invariant-loop-place l = record {
  inside : l.place < length l.self.knots.items;
  keeps : KeepsTree l.fn.self l.self;
  shaped : IsShaped l.self;
  judged : IsJudgedBut l.self l.place;
}

abbrev pub decreases-loop-place : goal.decreases-loop-place
decreases-loop-place l = l.place
