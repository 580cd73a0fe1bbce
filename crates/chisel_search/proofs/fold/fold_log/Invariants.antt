use Rattle.chisel_search.specs.Machine.{IsMachine, KeepsAll, held_options, pool_of, table_of}
use Rattle.chisel_search.proofs.Folding.{IsFolded}
use Rattle.chisel_search.proofs.fold.fold_log.Given as goal

abbrev pub invariant-loop-left : goal.invariant-loop-left
invariant-loop-left l = record {
  folded : IsFolded (table_of l.differences) (pool_of l.differences) l.fn.machine.log.items (held_options l.fn.machine.best) l.fn.machine.made l.left l.built.nodes.items l.built.sizes.items;
  machine : IsMachine l.differences l.machine;
  keeps : KeepsAll l.fn.machine l.machine;
}

abbrev pub decreases-loop-left : goal.decreases-loop-left
decreases-loop-left l = l.left
