use Rattle.std.proofs.Common.{◌≡◌, ◌++◌, drop}
use Rattle.chisel_cert.specs.Node.{trees_of}
use Rattle.chisel_cert.specs.Text.{all_lines}
use Rattle.chisel_cert.proofs.writer.+node_lines.Given as goal

abbrev pub decreases-node_lines : goal.decreases-node_lines
decreases-node_lines l = goal.size-node_lines l

abbrev pub invariant-loop-child : goal.invariant-loop-child
invariant-loop-child l =
    l.out.items ++ all_lines (trees_of (drop l.child-index l.child-items)) ≡ l.initial.out.items ++ all_lines (trees_of l.child-items)
