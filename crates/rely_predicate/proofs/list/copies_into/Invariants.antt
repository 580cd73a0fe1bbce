use Rattle.std.proofs.Common.{◌≡◌, ◌++◌, take}
use Rattle.rely_predicate.proofs.list.copies_into.Given as goal

abbrev pub invariant-loop-c : goal.invariant-loop-c
invariant-loop-c l = l.list.items ≡ l.initial.list.items ++ take l.c-index l.more
