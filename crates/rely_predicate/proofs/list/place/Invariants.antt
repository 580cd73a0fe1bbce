use Rattle.std.proofs.Common.{◌≡◌, ◌++◌, take, drop}
use Rattle.rely_predicate.specs.Top.{put}
use Rattle.rely_predicate.proofs.list.place.Given as goal

abbrev pub invariant-loop-d : goal.invariant-loop-d
invariant-loop-d l = record {
  at : l.at ≡ l.d-index;
  put : take l.d-index l.conjs ++ put l.c (drop l.d-index l.conjs) ≡ put l.c l.conjs;
}
