use Rattle.std.proofs.Common.{◌≡◌, ◌++◌}
use Rattle.std.specs.Vec.Iter.{into_iter_items}
use Rattle.rely_precond.proofs.lists.joined.Given as goal

abbrev pub invariant-loop-c : goal.invariant-loop-c
invariant-loop-c l = l.longer.items ++ into_iter_items l.c-iterator ≡ l.fn.list.items ++ l.fn.more.items
