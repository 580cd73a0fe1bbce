-- Laws of the readers of trees in order.
use Rattle.std.proofs.Common.{◌≡◌, ℕ, zero, suc, ◌+◌, ◌-◌, ◌<◌, List, [], ◌∷◌, ◌++◌, Ok, Err, refl, ap, ◌∙◌, arith}
use Rattle.chisel_cert.specs.declared.cert.Node.{Node}
use Rattle.chisel_cert.specs.declared.fault.CertFault.{CertFault}
use Rattle.chisel_cert.specs.declared.fault.CertFault.TheVariants as fault
use Rattle.chisel_cert.specs.declared.fault.CertWhy.TheVariants as why
use Rattle.chisel_cert.specs.Tree.{Closing, Tree, leaf, branch, Trees, nil, cons}
use Rattle.chisel_cert.specs.Node.{tree_of, trees_of}
use Rattle.chisel_cert.specs.State.{State, Reading, Read, ◌>>=◌}
use Rattle.chisel_cert.specs.Reading.{forked, closed, node_at, trees_at, tree_at}

-- the trees of the nodes, and then the others
abbrev pub before : List Node → Trees → Trees
before [] trees = trees
before (node ∷ nodes) trees = cons (tree_of node) (before nodes trees)

abbrev pub trees_front : List Node → Reading (Trees × State) → Reading (Trees × State)
trees_front nodes o = o >>= λ y. Ok (before nodes y.0, y.1)

pub trees_front-none : (o : Reading (Trees × State)) → trees_front [] o ≡ o
trees_front-none (Err e) = refl
trees_front-none (Ok y) = refl

before-nil : (nodes : List Node) → before nodes nil ≡ trees_of nodes
before-nil [] = refl
before-nil (node ∷ nodes) = ap (cons (tree_of node)) (before-nil nodes)

before-push : (nodes : List Node) (node : Node) (trees : Trees) → before (nodes ++ node ∷ []) trees ≡ before nodes (cons (tree_of node) trees)
before-push [] node trees = refl
before-push (first ∷ nodes) node trees = ap (cons (tree_of first)) (before-push nodes node trees)

trees_front-push : (nodes : List Node) (node : Node) (o : Reading (Trees × State)) →
    trees_front (nodes ++ node ∷ []) o ≡ trees_front nodes (o >>= λ y. Ok (cons (tree_of node) y.0, y.1))
trees_front-push nodes node (Err e) = refl
trees_front-push nodes node (Ok y) = ap (λ b. Ok (b, y.1)) (before-push nodes node y.0)

-- behind the last tree
pub trees_end : (tree : Read Tree) (n : ℕ) (nodes : List Node) (s : State) → n ≡ 0 → trees_front nodes (trees_at tree n s) ≡ Ok (trees_of nodes, s)
unfolding trees_at
trees_end tree zero nodes s h = ap (λ l. Ok (l, s)) (before-nil nodes)
trees_end tree (suc n) nodes s h = absurd (omega arith)

-- a tree that isn't read
pub trees_fail : (tree : Read Tree) (n : ℕ) (nodes : List Node) (s : State) (e : CertFault) → 0 < n → tree s ≡ Err e → trees_front nodes (trees_at tree n s) ≡ Err e
unfolding trees_at
trees_fail tree zero nodes s e l h = absurd (omega arith)
trees_fail tree (suc n) nodes s e l h = rw h refl

-- one tree more
pub trees_more : (tree : Read Tree) (n m : ℕ) (nodes : List Node) (node : Node) (s r : State) → m + 1 ≡ n → tree s ≡ Ok (tree_of node, r) →
    trees_front (nodes ++ node ∷ []) (trees_at tree m r) ≡ trees_front nodes (trees_at tree n s)
unfolding trees_at
trees_more tree zero m nodes node s r l h = absurd (omega arith)
trees_more tree (suc n) m nodes node s r l h =
    let same : m ≡ n = omega arith in
    rw h (trees_front-push nodes node (trees_at tree m r) ∙ ap (λ k. trees_front nodes (trees_at tree k r >>= λ y. Ok (cons (tree_of node) y.0, y.1))) same)

-- ---- a tree, by its first line

pub tree-fails : (version rows depth : ℕ) (s : State) (e : CertFault) → node_at version rows s ≡ Err e → tree_at version rows depth s ≡ Err e
unfolding tree_at
tree-fails version rows zero s e h = rw h refl
tree-fails version rows (suc depth) s e h = rw h refl

pub tree-deep : (version rows depth d n : ℕ) (s r : State) → depth ≡ 0 → node_at version rows s ≡ Ok (forked d n, r) → tree_at version rows depth s ≡ Err (fault.At s.line why.Deep)
unfolding tree_at
tree-deep version rows zero d n s r z h = rw h refl
tree-deep version rows (suc depth) d n s r z h = absurd (omega arith)

pub tree-leaf : (version rows depth : ℕ) (closing : Closing) (s r : State) → node_at version rows s ≡ Ok (closed closing, r) → tree_at version rows depth s ≡ Ok (leaf closing, r)
unfolding tree_at
tree-leaf version rows zero closing s r h = rw h refl
tree-leaf version rows (suc depth) closing s r h = rw h refl

pub tree-branch : (version rows depth d n : ℕ) (s r : State) → 0 < depth → node_at version rows s ≡ Ok (forked d n, r) →
    tree_at version rows depth s ≡ (trees_at (tree_at version rows (depth - 1)) n r >>= λ y. Ok (branch d y.0, y.1))
unfolding tree_at
tree-branch version rows zero d n s r l h = absurd (omega arith)
tree-branch version rows (suc depth) d n s r l h = let same : suc depth - 1 ≡ depth = omega arith in rw (h, same) refl
