-- The readers of the tree and of a whole text.
use Rattle.std.specs.Prelude.{ℕ, zero, suc, ◌+◌, ◌-◌, ◌≤◌, not, ◌&&◌, ◌||◌, ◌==◌, nat_lt, List, [], codes, Option, Ok, Err, is_some, if◌then◌else◌}
use Rattle.rely_num.specs.Texts.{Bytes, same_text}
use Rattle.chisel_table.specs.declared.closing.CloseRule.{CloseRule}
use Rattle.chisel_table.specs.declared.closing.CloseRule.TheVariants.{C, I, D, T}
use Rattle.chisel_cert.specs.declared.fault.CertFault.TheVariants as fault
use Rattle.chisel_cert.specs.declared.fault.CertWhy.TheVariants as why
use Rattle.chisel_cert.specs.declared.limits.TheConstants.{MOST_MULTIPLIER, MOST_NODES, LAST_DECISION, MOST_CHILDREN, LAST_INDEX, MOST_DEPTH, MOST_LINES}
use Rattle.chisel_cert.specs.Tree.{Closing, pooled, own, Tree, leaf, branch, Trees, nil, cons, Certificate}
use Rattle.chisel_cert.specs.Ranges.{restated_count, has_vector}
use Rattle.chisel_cert.specs.State.{State, Reading, Read, ◌>>=◌, choose, formless, skip_at, line_end_at, number_at, each_at}
use Rattle.chisel_cert.specs.Lines.{number_line_at, counted_line_at, spaced_at, version_line_at, size_line_at, choice_line_at, energy_line_at, row_line_at, vectors_at}

-- ---- a node's line

-- what the line of a node says: a decision with its number of children, or a closed part
pub data Line : Type 0 where
  forked : ℕ → ℕ → Line
  closed : Closing → Line

-- a letter and a blank
unfoldable pub rule_at : Read CloseRule
rule_at s =
    choose (skip_at (codes "c ") s) (λ a. Ok (C, a))
    (choose (skip_at (codes "i ") s) (λ a. Ok (I, a))
    (choose (skip_at (codes "d ") s) (λ a. Ok (D, a))
    (skip_at (codes "t ") s >>= λ a. Ok (T, a))))

-- the word of a vector of its own, where the version and the rule have one
unfoldable pub own_at : ℕ → CloseRule → State → Reading State
own_at version rule s = if version == 2 && has_vector rule then skip_at (codes "own") s else Err (formless s)

-- so many multipliers at the end of a line
unfoldable pub own_line_at : ℕ → Read (List ℕ)
own_line_at rows s = each_at (spaced_at MOST_MULTIPLIER) rows s >>= λ x. line_end_at x.1 >>= λ a. Ok (x.0, a)

unfoldable pub leaf_line_at : ℕ → ℕ → Read Closing
leaf_line_at version rows s =
    rule_at s >>= λ r.
    choose (own_at version r.0 r.1)
    (λ a. own_line_at rows a >>= λ x. Ok (own r.0 x.0, x.1))
    (number_line_at 0 LAST_INDEX r.1 >>= λ x. Ok (pooled (record { rule = r.0; index = x.0 }), x.1))

-- a decision and a number of children
unfoldable pub branch_line_at : Read (ℕ × ℕ)
branch_line_at s =
    number_at 0 LAST_DECISION s >>= λ d. counted_line_at (codes " ") 1 MOST_CHILDREN d.1 >>= λ n. Ok ((d.0, n.0), n.1)

unfoldable pub node_line_at : ℕ → ℕ → Read Line
node_line_at version rows s =
    choose (skip_at (codes "b ") s)
    (λ a. branch_line_at a >>= λ x. Ok (forked x.0.0 x.0.1, x.1))
    (leaf_line_at version rows s >>= λ x. Ok (closed x.0, x.1))

abbrev pub children_of : Line → ℕ
children_of (forked decision children) = children
children_of (closed closing) = 0

-- the nodes that are wanted behind a node's line have to fit the lines that are left, and where none is wanted no line may be left
unfoldable pub counted_at : ℕ → ℕ → State → Reading State
counted_at line children s =
    let wanted = s.wanted - 1 + children in
    let left = s.left - 1 in
    if nat_lt left wanted || (wanted == 0 && not (left == 0)) then Err (fault.At line why.Form)
    else Ok (record { text = s.text; line = s.line; wanted = wanted; left = left })

-- a node's line, counted
unfoldable pub node_at : ℕ → ℕ → Read Line
node_at version rows s = node_line_at version rows s >>= λ x. counted_at s.line (children_of x.0) x.1 >>= λ a. Ok (x.0, a)

-- ---- the tree

-- a node is wanted, and the nodes that are wanted fit the lines that are left
abbrev pub IsCounted : State → Type 0
IsCounted s = (1 ≤ s.wanted) × (s.wanted ≤ s.left) × (s.line + s.left ≤ MOST_LINES)

-- so many trees in order
unfoldable pub trees_at : Read Tree → ℕ → Read Trees
trees_at tree zero s = Ok (nil, s)
trees_at tree (suc n) s = tree s >>= λ x. trees_at tree n x.1 >>= λ y. Ok (cons x.0 y.0, y.1)

abbrev pub grown : (ℕ → ℕ → Reading (Tree × State)) → Line → State → Reading (Tree × State)
grown fork (forked decision children) s = fork decision children
grown fork (closed closing) s = Ok (leaf closing, s)

-- a tree in which at most so many branches may stand one under another
unfoldable pub tree_at : ℕ → ℕ → ℕ → Read Tree
tree_at version rows zero s = node_at version rows s >>= λ x. grown (λ d n. Err (fault.At s.line why.Deep)) x.0 x.1
tree_at version rows (suc depth) s =
    node_at version rows s >>= λ x.
    grown (λ d n. trees_at (tree_at version rows depth) n x.1 >>= λ y. Ok (branch d y.0, y.1)) x.0 x.1

-- ---- the whole text

-- the number of nodes; the root is wanted, and all lines are left
unfoldable pub tree_line_at : Read ℕ
tree_line_at s =
    counted_line_at (codes "tree ") 1 MOST_NODES s >>= λ x.
    Ok (x.0, record { text = x.1.text; line = x.1.line; wanted = 1; left = x.0 })

-- the last line, behind which nothing may stand
unfoldable pub end_line_at : State → Reading State
end_line_at s = skip_at (codes "end") s >>= λ k. line_end_at k >>= λ a. if same_text a.text [] then Ok a else Err (formless a)

-- the lines before the rows
pub record Head : Type 0 where
  pub version : ℕ
  pub decisions : ℕ
  pub rows : ℕ
  pub choice : Option (List ℕ)
  pub energy : Option ℕ

unfoldable pub head_at : Read Head
head_at s =
    version_line_at s >>= λ v. size_line_at v.1 >>= λ z. choice_line_at z.0.0 z.1 >>= λ c. energy_line_at (is_some c.0) c.1 >>= λ e.
    Ok (record { version = v.0; decisions = z.0.0; rows = z.0.1; choice = c.0; energy = e.0 }, e.1)

-- the tree with its number of nodes, and the end
unfoldable pub root_at : ℕ → ℕ → Read (ℕ × Tree)
root_at version rows s = tree_line_at s >>= λ n. tree_at version rows MOST_DEPTH n.1 >>= λ t. end_line_at t.1 >>= λ a. Ok ((n.0, t.0), a)

-- the first line of a text
abbrev pub start_of : Bytes → State
start_of text = record { text = text; line = 1; wanted = 0; left = 0 }

-- the certificate that a text writes, or the first line that fails
unfoldable pub certificate_at : Bytes → Reading Certificate
certificate_at text =
    head_at (start_of text) >>= λ h. each_at (row_line_at (is_some h.0.choice)) (restated_count h.0.version h.0.rows) h.1 >>= λ r.
    vectors_at h.0.rows r.1 >>= λ p. root_at h.0.version h.0.rows p.1 >>= λ t.
    Ok (record {
      version = h.0.version;
      decisions = h.0.decisions;
      rows = h.0.rows;
      choice = h.0.choice;
      energy = h.0.energy;
      restated = r.0;
      pool = p.0;
      nodes = t.0.0;
      root = t.0.1;
    })
