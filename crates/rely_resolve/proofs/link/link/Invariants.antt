use Rattle.std.proofs.Common.{◌≡◌, ◌≤◌, [], map, take, drop, length}
use Rattle.std.specs.List.{AllByRecursion}
use Rattle.rely_tree.specs.Shape.{func_shape}
use Rattle.rely_resolve.specs.Kernels.{done_of}
use Rattle.rely_tree.specs.Limits.{IsFunction}
use Rattle.rely_resolve.specs.Linked.{linked_from, marks, nothing_done}
use Rattle.rely_resolve.proofs.link.link.Given as goal

abbrev pub invariant-loop-i : goal.invariant-loop-i
invariant-loop-i l = record {
  few : length l.done.functions.items ≤ l.i;
  functions : AllByRecursion IsFunction (map func_shape (drop l.i l.before));
  marks : l.marks.items ≡ marks (func_shape l.f) (map func_shape (drop l.i l.before));
  same :
      linked_from l.h (func_shape l.f) (map func_shape (take l.i l.before)) (done_of (map func_shape l.done.functions.items) l.done.kernels.items) (map func_shape (drop l.i l.before))
      ≡ linked_from l.h (func_shape l.f) [] nothing_done (map func_shape l.before);
}
