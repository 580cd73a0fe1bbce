-- The trees of nodes, at the constructors that the program writes.
use Rattle.std.proofs.Common.{◌≡◌, ℕ, List, [], ◌∷◌, length, refl, ap, ◌∙◌, arith}
use Rattle.std.specs.Borrow.{Bor}
use Rattle.chisel_cert.specs.declared.cert.Mark.{Mark}
use Rattle.chisel_cert.specs.declared.cert.Node.{Node, Leaf, Branch, Row_of-Node, end_of-Node, more_of-Node, items-the_row-Node, items_hidden-the_row-Node-0}
use Rattle.chisel_cert.specs.declared.cert.Node.TheBlock.{hidden-the_row-Node-0}
use Rattle.chisel_cert.specs.Tree.{leaf, branch, cons, count}
use Rattle.chisel_cert.specs.Node.{closing_of, tree_of, row_trees, trees_of}

-- a row is its items
row_trees_is : (n : _) (row : Row_of-Node n) → row_trees row ≡ trees_of (items-the_row-Node n row)
unfolding row_trees
row_trees_is n end_of-Node = refl
row_trees_is n (more_of-Node node row) = ap (cons (tree_of node)) (row_trees_is _ row)

pub tree_of-Branch : (decision : ℕ) (children : Bor (List Node)) → tree_of (Branch decision children) ≡ branch decision (trees_of children.now)
unfolding tree_of row_trees
tree_of-Branch decision children =
    ap (branch decision) (row_trees_is _ (hidden-the_row-Node-0 children.now) ∙ ap trees_of (items_hidden-the_row-Node-0 children.now))

pub tree_of-Leaf : (mark : Mark) → tree_of (Leaf mark) ≡ leaf (closing_of mark)
unfolding tree_of
tree_of-Leaf mark = refl

pub count-trees_of : (nodes : List Node) → count (trees_of nodes) ≡ length nodes
unfolding count
count-trees_of [] = refl
count-trees_of (node ∷ nodes) = let a = count-trees_of nodes in omega arith

-- what a node says, by how it is made
pub ruleset shapes = (tree_of-Branch, tree_of-Leaf)
