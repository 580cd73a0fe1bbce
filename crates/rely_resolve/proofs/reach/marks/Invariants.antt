use Rattle.std.proofs.Common.{◌≡◌, ◌≤◌, map, drop, length}
use Rattle.rely_tree.specs.Shape.{func_shape}
use Rattle.rely_resolve.specs.Linked.{called_from, marks}
use Rattle.rely_resolve.proofs.reach.marks.Given as goal

abbrev pub invariant-loop-i : goal.invariant-loop-i
invariant-loop-i l = record {
  within : l.i ≤ length l.before;
  called : map (λ n. n.now) l.called.items ≡ called_from (func_shape l.f) (map func_shape (drop l.i l.before));
  marks : l.marks.items ≡ marks (func_shape l.f) (map func_shape (drop l.i l.before));
}

abbrev pub decreases-loop-i : goal.decreases-loop-i
decreases-loop-i l = l.i
