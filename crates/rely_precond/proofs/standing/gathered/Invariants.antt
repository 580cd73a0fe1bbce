use Rattle.std.proofs.Common.{◌≡◌, [], length}
use Rattle.std.specs.List.{All}
use Rattle.std.specs.Vec.Iter.{into_iter_items}
use Rattle.rely_predicate.specs.Top.{top}
use Rattle.rely_precond.specs.Walk.{added}
use Rattle.rely_precond.proofs.standing.gathered.Given as goal

abbrev pub invariant-loop-c : goal.invariant-loop-c
invariant-loop-c l = record {
  labels : l.gathered.labels ≡ l.labels;
  own : top l.gathered.conjs ≡ l.gathered.conjs;
  counted : All (λ c. length c.counts ≡ l.labels) (into_iter_items l.c-iterator);
  left : added l.gathered.conjs (into_iter_items l.c-iterator) ≡ added [] l.fn.list.items;
}
