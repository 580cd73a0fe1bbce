use Rattle.std.proofs.Common.{◌≡◌, ◌++◌, false, length, take, drop}
use Rattle.rely_loops.specs.Grown.{too_many}
use Rattle.rely_precond.specs.Places.{line_of}
use Rattle.rely_precond.specs.Walk.{changed}
use Rattle.rely_precond.proofs.lists.changed.Given as goal

abbrev pub invariant-loop-i : goal.invariant-loop-i
invariant-loop-i l = record {
  few : too_many l.list.items ≡ false;
  long : length l.list.items ≡ length l.fn.conjs.items;
  so_far : l.list.items ≡ changed l.k (line_of l.statement.what.now) (take l.i l.fn.conjs.items) ++ drop l.i l.fn.conjs.items;
}
