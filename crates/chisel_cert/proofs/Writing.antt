-- A loop that writes the texts of items in order.
use Rattle.std.proofs.Common.{◌≡◌, ℕ, ◌+◌, ◌<◌, ◌≤◌, List, [], ◌∷◌, ◌++◌, length, drop, get_or, refl, sym, ap, ◌∙◌, append_assoc, append-nil}
use Rattle.std.proofs.lemmas.List.{drop_more, drop_all}
use Rattle.rely_num.specs.Texts.{Bytes}
use Rattle.std.specs.Borrow.{Bor}
use Rattle.chisel_cert.specs.declared.cert.Mark.{Mark}
use Rattle.chisel_cert.specs.declared.cert.Node.{Node, Leaf, Branch}
use Rattle.chisel_cert.specs.Node.{closing_of, tree_of, trees_of}
use Rattle.chisel_cert.specs.Text.{leaf_line, branch_line, node_lines, all_lines}
use Rattle.chisel_cert.proofs.Nodes.{tree_of-Branch, tree_of-Leaf, count-trees_of}

-- one item more is written
pub one_more : {A : Type 0} (all : List A → Bytes) (text : A → Bytes) → ((x : A) (xs : List A) → all (x ∷ xs) ≡ text x ++ all xs) →
    (xs : List A) (i : ℕ) (d : A) (old new : Bytes) → i < length xs → new ≡ old ++ text (get_or xs i d) → new ++ all (drop (i + 1) xs) ≡ old ++ all (drop i xs)
one_more all text cons xs i d old new less written =
    ap (λ l. l ++ all (drop (i + 1) xs)) written ∙ append_assoc old (text (get_or xs i d)) (all (drop (i + 1) xs))
    ∙ ap (λ l. old ++ l) (sym (ap all (drop_more xs i d less) ∙ cons (get_or xs i d) (drop (i + 1) xs)))

-- all items are written
pub none_more : {A : Type 0} (all : List A → Bytes) → all [] ≡ [] → (xs : List A) (i : ℕ) (old : Bytes) → length xs ≤ i → old ++ all (drop i xs) ≡ old
none_more all none xs i old more = ap (λ l. old ++ l) (ap all (drop_all i xs more) ∙ none) ∙ append-nil old

-- the lines of the trees of nodes
pub all_lines-cons : (node : Node) (nodes : List Node) → all_lines (trees_of (node ∷ nodes)) ≡ node_lines (tree_of node) ++ all_lines (trees_of nodes)
unfolding node_lines
all_lines-cons node nodes = refl

pub all_lines-nil : all_lines (trees_of []) ≡ []
unfolding node_lines
all_lines-nil = refl

-- the lines of a node, by how it is made
pub node_lines-Leaf : (mark : Mark) → node_lines (tree_of (Leaf mark)) ≡ leaf_line (closing_of mark)
unfolding node_lines
node_lines-Leaf mark = ap node_lines (tree_of-Leaf mark)

pub node_lines-Branch : (decision : ℕ) (children : Bor (List Node)) →
    node_lines (tree_of (Branch decision children)) ≡ branch_line decision (length children.now) ++ all_lines (trees_of children.now)
unfolding node_lines
node_lines-Branch decision children =
    ap node_lines (tree_of-Branch decision children) ∙ ap (λ n. branch_line decision n ++ all_lines (trees_of children.now)) (count-trees_of children.now)
