use Rattle.std.proofs.Common.{◌≡◌, ◌+◌, ◌-◌, ◌≤◌}
use Rattle.chisel_cert.specs.State.{state_of}
use Rattle.chisel_cert.specs.Reading.{trees_at, tree_at}
use Rattle.chisel_cert.proofs.Grown.{trees_front}
use Rattle.chisel_cert.proofs.node.+tree.Given as goal

abbrev pub decreases-tree : goal.decreases-tree
decreases-tree l = l.depth

abbrev pub invariant-loop-index : goal.invariant-loop-index
invariant-loop-index l = record {
  line : l.rest.line + l.rest.left ≡ l.initial.rest.line + l.initial.rest.left;
  wanted : l.rest.wanted + l.index ≡ l.initial.rest.wanted;
  fits : l.rest.wanted ≤ l.rest.left;
  same :
      trees_front l.all.items (trees_at (tree_at l.format.version l.format.rows (l.depth - 1)) (l.count - l.index) (state_of l.rest))
      ≡ trees_at (tree_at l.format.version l.format.rows (l.depth - 1)) l.count (state_of l.initial.rest);
}
