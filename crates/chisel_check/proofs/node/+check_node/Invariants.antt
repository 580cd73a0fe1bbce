use Rattle.std.proofs.Common.{◌≡◌, ◌+◌, drop}
use Rattle.std.specs.Prelude.{option_copied}
use Rattle.chisel_cert.specs.Tree.{nodes, nodes_of}
use Rattle.chisel_cert.specs.Node.{tree_of, trees_of, vectors_of}
use Rattle.chisel_check.specs.Walk.{walk, walk_all, AllFit}
use Rattle.chisel_check.proofs.Walks.{Alike}
use Rattle.chisel_check.proofs.node.+check_node.Given as goal

abbrev pub decreases-check_node : goal.decreases-check_node
decreases-check_node l = goal.size-check_node l

abbrev pub invariant-loop-k : goal.invariant-loop-k
invariant-loop-k l = record {
  alike : Alike l.p l.initial.p l.d;
  fits : AllFit l.t (trees_of (drop l.k l.child-items));
  lines : l.next + nodes_of (trees_of (drop l.k l.child-items)) ≡ l.line + nodes (tree_of l.node);
  same : walk_all l.t (vectors_of l.c.cert.now.pool.now) (option_copied l.c.cert.now.choice) l.initial.p l.d l.k (trees_of (drop l.k l.child-items)) l.next
      ≡ walk l.t (vectors_of l.c.cert.now.pool.now) (option_copied l.c.cert.now.choice) l.initial.p (tree_of l.node) l.line;
}
