-- The certificate that is printed.
use Rattle.std.specs.Prelude.{ℕ, zero, suc, ◌≡◌, ◌+◌, List, Option, Some, None}
use Rattle.chisel_table.specs.declared.table.Table.{Table}
use Rattle.chisel_table.specs.declared.partial.Partial.{Partial}
use Rattle.chisel_table.specs.declared.closing.Close.{Close}
use Rattle.chisel_table.specs.Tables.{decision_count, option_count, row_count}
use Rattle.chisel_table.specs.Partials.{with_option, nothing_fixed}
use Rattle.chisel_table.specs.Closings.{first_close}
use Rattle.chisel_cert.specs.Tree.{pooled, Tree, leaf, branch, Trees, nil, cons, count, nodes, Certificate}
use Rattle.chisel_cert.specs.declared.cert.Restated.{Restated}
use Rattle.chisel_cert.specs.Valid.{energy_of, restated_row}
use Rattle.chisel_table.specs.Sums.{list_to}

-- each leaf has the first closing rule, and each branch stands on a decision that the rule answers where none closes
unfoldable mutual
  pub IsPrinted : Table → List (List ℕ) → (Partial → ℕ → Type 0) → Option (List ℕ) → Partial → Tree → Type 0
  IsPrinted t pool Answers best p (leaf m) = (c : Close) × (first_close t pool best p ≡ Some c) × (m ≡ pooled c)
  IsPrinted t pool Answers best p (branch d children) =
      (first_close t pool best p ≡ None) × Answers p d × (count children ≡ option_count t d) × ArePrinted t pool Answers best p d 0 children

  -- the trees of the options from o on
  pub ArePrinted : Table → List (List ℕ) → (Partial → ℕ → Type 0) → Option (List ℕ) → Partial → ℕ → ℕ → Trees → Type 0
  ArePrinted t pool Answers best p d o nil = Unit {0}
  ArePrinted t pool Answers best p d o (cons child rest) =
      IsPrinted t pool Answers best (with_option p d o) child × ArePrinted t pool Answers best p d (o + 1) rest

-- a tree per number below n
unfoldable pub trees_to : ℕ → (ℕ → Tree) → Trees
trees_to zero f = nil
trees_to (suc n) f = cons (f 0) (trees_to n (λ o. f (suc o)))

-- the leaf with the first closing rule, or a branch on the rule's decision with all its children; at most n branches deep
unfoldable pub tree : Table → List (List ℕ) → (Partial → ℕ) → Option (List ℕ) → ℕ → Partial → Tree
tree t pool rule best zero p = elim (first_close t pool best p) [
  | Some c ↦ leaf (pooled c)
  | None ↦ branch (rule p) nil
]
tree t pool rule best (suc n) p = elim (first_close t pool best p) [
  | Some c ↦ leaf (pooled c)
  | None ↦ branch (rule p) (trees_to (option_count t (rule p)) (λ o. tree t pool rule best n (with_option p (rule p) o)))
]

-- the table's rows told again
abbrev pub restated_rows : Table → Option (List ℕ) → List Restated
restated_rows t best = list_to (row_count t) (restated_row t best)

-- the certificate of a best choice with that tree
abbrev pub certified : Table → List (List ℕ) → Option (List ℕ) → Tree → Certificate
certified t pool best root = record {
  version = 2;
  decisions = decision_count t;
  rows = row_count t;
  choice = best;
  energy = energy_of t best;
  restated = restated_rows t best;
  pool = pool;
  nodes = nodes root;
  root = root;
}

-- the certificate that is printed for a best choice under a rule
abbrev pub certificate : Table → List (List ℕ) → (Partial → ℕ) → Option (List ℕ) → Certificate
certificate t pool rule best = certified t pool best (tree t pool rule best (decision_count t) (nothing_fixed t))
