use Rattle.std.proofs.Common.{◌≡◌, ◌++◌, map, drop}
use Rattle.rely_tree.specs.Shape.{block_shape}
use Rattle.rely_resolve.specs.Linked.{block_callees}
use Rattle.rely_resolve.proofs.reach.+stmt.Given as goal

abbrev pub invariant-callees-loop-s : goal.invariant-callees-loop-s
invariant-callees-loop-s l = map (λ n. n.now) l.called.items ++ block_callees (block_shape (drop l.s-index l.ss)) ≡ map (λ n. n.now) l.fn.called.items ++ block_callees (block_shape l.ss)
