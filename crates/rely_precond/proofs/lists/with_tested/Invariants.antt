use Rattle.std.proofs.Common.{◌≡◌, ◌++◌, false, map}
use Rattle.std.specs.Vec.Iter.{into_iter_items}
use Rattle.std.specs.Prelude.{IsTrue}
use Rattle.rely_kernel.specs.Paths.{use_of}
use Rattle.rely_kernel.specs.Text.{expr_of}
use Rattle.rely_loops.specs.Grown.{too_many}
use Rattle.rely_precond.proofs.lists.with_tested.Given as goal

abbrev pub invariant-loop-c : goal.invariant-loop-c
invariant-loop-c l = record {
  few : too_many l.longer.items ≡ false;
  left : too_many (into_iter_items l.c-iterator) ≡ false;
  full : IsTrue (too_many (map (use_of l.k (expr_of l.e)) (into_iter_items l.c-iterator))) → IsTrue (too_many (map (use_of l.k (expr_of l.e)) l.fn.conjs.items));
  so_far : l.longer.items ++ map (use_of l.k (expr_of l.e)) (into_iter_items l.c-iterator) ≡ l.fn.list.items ++ map (use_of l.k (expr_of l.e)) l.fn.conjs.items;
}
