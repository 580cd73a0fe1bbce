use Rattle.std.proofs.Common.{◌++◌, length, ap, sym, ◌∙◌, arith, append_assoc}
use Rattle.chisel_cert.specs.Node.{tree_of, trees_of}
use Rattle.chisel_cert.specs.Text.{branch_line, node_lines, all_lines}
use Rattle.chisel_cert.proofs.Writing.{one_more, none_more, all_lines-cons, all_lines-nil, node_lines-Leaf, node_lines-Branch}
use Rattle.chisel_cert.proofs.writer.+node_lines.Goals as goal

pub loop-child-preserved : goal.loop-child-preserved
loop-child-preserved t c =
    one_more (λ l. all_lines (trees_of l)) (λ n. node_lines (tree_of n)) all_lines-cons c.in-Branch.children.now c.loop-child.child-index c.child-item.result
    c.loop-child.out.items c.node_lines.new.out.items (omega arith)
    (c.in_ok-node_lines-in-Branch.ensures ∙ ap (λ n. c.loop-child.out.items ++ node_lines (tree_of n)) c.child-item.is)
    ∙ c.loop-child.invariant

pub returns-in-Leaf : goal.returns-in-Leaf
returns-in-Leaf t c = rw (ap (λ n. node_lines (tree_of n)) c.in-Leaf.is ∙ node_lines-Leaf c.in-Leaf.mark) c.leaf_line.ensures

pub returns-after-loop-child : goal.returns-after-loop-child
returns-after-loop-child t c =
    sym (none_more (λ l. all_lines (trees_of l)) all_lines-nil c.in-Branch.children.now c.loop-child.child-index c.loop-child.out.items (omega arith))
    ∙ c.loop-child.invariant
    ∙ ap (λ l. l ++ all_lines (trees_of c.in-Branch.children.now)) c.in_ok-branch_line-in-Branch.ensures
    ∙ append_assoc c.args.out.now.items (branch_line c.in-Branch.decision (length c.in-Branch.children.now)) (all_lines (trees_of c.in-Branch.children.now))
    ∙ ap (λ l. c.args.out.now.items ++ l) (sym (ap (λ n. node_lines (tree_of n)) c.in-Branch.is ∙ node_lines-Branch c.in-Branch.decision c.in-Branch.children))
