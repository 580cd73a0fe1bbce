use Rattle.std.proofs.Common.{◌≡◌, ◌++◌, filter, not, bit_and, ◌==◌}
use Rattle.std.specs.Vec.Iter.{into_iter_items}
use Rattle.rely_precond.proofs.lists.parted.Given as goal

abbrev pub invariant-loop-c : goal.invariant-loop-c
invariant-loop-c l = record {
  others : l.others.items ++ filter (λ c. bit_and l.written.bits c.vars.bits == 0) (into_iter_items l.c-iterator) ≡ filter (λ c. bit_and l.written.bits c.vars.bits == 0) l.fn.conjs.items;
  own : l.own.items ++ filter (λ c. not (bit_and l.written.bits c.vars.bits == 0)) (into_iter_items l.c-iterator) ≡ filter (λ c. not (bit_and l.written.bits c.vars.bits == 0)) l.fn.conjs.items;
}
