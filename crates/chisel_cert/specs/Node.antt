-- What a certificate of the program says, wherever its parts stand.
use Rattle.std.specs.Prelude.{ℕ, List, [], ◌∷◌, map, option_copied}
use Rattle.std.specs.Borrow.{Bor}
use Rattle.chisel_cert.specs.declared.cert.Mark.{Mark}
use Rattle.chisel_cert.specs.declared.cert.Mark.TheVariants.{Pool, Own}
use Rattle.chisel_cert.specs.declared.cert.Node.{Node, Leaf, Branch', Row_of-Node, end_of-Node, more_of-Node}
use Rattle.chisel_cert.specs.declared.cert.Cert.{Cert}
use Rattle.chisel_cert.specs.declared.node.NodeLine.{NodeLine}
use Rattle.chisel_cert.specs.declared.node.NodeLine.TheVariants as node_line
use Rattle.chisel_cert.specs.declared.reader.Head as declared
use Rattle.chisel_cert.specs.Reading.{Line, forked, closed, Head}
use Rattle.chisel_cert.specs.Tree.{Closing, pooled, own, Tree, leaf, branch, Trees, nil, cons, Certificate}

abbrev pub closing_of : Mark → Closing
closing_of (Pool close) = pooled close
closing_of (Own rule vector) = own rule vector.now

unfoldable mutual
  pub tree_of : Node → Tree
  tree_of (Leaf mark) = leaf (closing_of mark)
  tree_of (Branch' decision p n row) = branch decision (row_trees row)

  pub row_trees : {n : _} → Row_of-Node n → Trees
  row_trees end_of-Node = nil
  row_trees (more_of-Node node row) = cons (tree_of node) (row_trees row)

-- the trees of a list of nodes
abbrev pub trees_of : List Node → Trees
trees_of [] = nil
trees_of (node ∷ nodes) = cons (tree_of node) (trees_of nodes)

-- the vectors behind a list of references
abbrev pub vectors_of : List (Bor (List ℕ)) → List (List ℕ)
vectors_of vectors = map (λ v. v.now) vectors

abbrev pub certificate_of : Cert → Certificate
certificate_of c = record {
  version = c.version;
  decisions = c.decisions;
  rows = c.rows;
  choice = option_copied c.choice;
  energy = c.energy;
  restated = c.restated.now;
  pool = vectors_of c.pool.now;
  nodes = c.nodes;
  root = tree_of c.root;
}

abbrev pub line_of : NodeLine → Line
line_of (node_line.Branch decision children) = forked decision children
line_of (node_line.Leaf mark) = closed (closing_of mark)

abbrev pub head_of : declared.Head → Head
head_of h = record { version = h.version; decisions = h.decisions; rows = h.rows; choice = option_copied h.choice; energy = h.energy }

abbrev pub root_of : ℕ × Node → ℕ × Tree
root_of x = (x.0, tree_of x.1)
