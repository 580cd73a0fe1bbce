-- The first node of a tree that isn't valid, by its line.
use Rattle.std.specs.Prelude.{ℕ, ◌+◌, ◌<◌, Bool, ◌&&◌, ◌==◌, nat_lt, List, length, Option, option_copied, Result, Ok, Err, if◌then◌else◌}
use Rattle.chisel_table.specs.declared.partial.Partial.{Partial}
use Rattle.chisel_table.specs.declared.table.Table.{Table}
use Rattle.chisel_table.specs.Closings.{IsBest, vector_at}
use Rattle.chisel_table.specs.Lagrangian.{IsVector}
use Rattle.chisel_table.specs.Partials.{is_unfixed, with_option}
use Rattle.chisel_table.specs.Tables.{decision_count, option_count}
use Rattle.chisel_cert.specs.declared.cert.Cert.{Cert}
use Rattle.chisel_cert.specs.declared.cert.Mark.{Mark}
use Rattle.chisel_cert.specs.declared.cert.Node.{Node}
use Rattle.chisel_cert.specs.Node.{closing_of, tree_of, vectors_of}
use Rattle.chisel_cert.specs.Tree.{Closing, pooled, own, Tree, leaf, branch, Trees, nil, cons, count}
use Rattle.chisel_cert.specs.Valid.{closing_holds}
use Rattle.chisel_check.specs.declared.node.Failure.{Failure}
use Rattle.chisel_check.specs.declared.node.CheckWhy.{CheckWhy}
use Rattle.chisel_check.specs.declared.node.CheckWhy.TheVariants as why

abbrev pub fails : ℕ → CheckWhy → Result ℕ Failure
fails line w = Err (record { line = line; why = w })

infixl 10 ◌>>=◌
abbrev pub ◌>>=◌ : {A B : Type 0} → Result A Failure → (A → Result B Failure) → Result B Failure
Ok x >>= f = f x
Err e >>= f = Err e

-- the line after the node's, where it is valid, else the first that fails
unfoldable mutual
  pub walk : Table → List (List ℕ) → Option (List ℕ) → Partial → Tree → ℕ → Result ℕ Failure
  walk t pool choice p (leaf closing) line = if closing_holds t pool choice p closing then Ok (line + 1) else fails line why.Leaf
  walk t pool choice p (branch d children) line =
      if nat_lt d (decision_count t) && is_unfixed p d
      then (if count children == option_count t d then walk_all t pool choice p d 0 children (line + 1) else fails line why.Children)
      else fails line why.Branch

  -- the trees of the options from o on
  pub walk_all : Table → List (List ℕ) → Option (List ℕ) → Partial → ℕ → ℕ → Trees → ℕ → Result ℕ Failure
  walk_all t pool choice p d o nil line = Ok line
  walk_all t pool choice p d o (cons tree rest) line =
      walk t pool choice (with_option p d o) tree line >>= λ after. walk_all t pool choice p d (o + 1) rest after

-- ---- of a certificate of the program

abbrev pub mark_holds : Table → Cert → Partial → Mark → Bool
mark_holds t c p mark = closing_holds t (vectors_of c.pool.now) (option_copied c.choice) p (closing_of mark)

abbrev pub node_walk : Table → Cert → Partial → Node → ℕ → Result ℕ Failure
node_walk t c p node line = walk t (vectors_of c.pool.now) (option_copied c.choice) p (tree_of node) line

-- ---- what fits a table

-- each vector has one multiplier in range for each row
abbrev pub IsPool : Table → List (List ℕ) → Type 0
IsPool t pool = (j : ℕ) → j < length pool → IsVector t (vector_at pool j)

-- so do the vectors of a certificate's pool, and its choice is one of the table
pub record CertFits (t : Table) (c : Cert) : Type 0 where
  pub pool : IsPool t (vectors_of c.pool.now)
  pub choice : IsBest t (option_copied c.choice)

abbrev pub ClosingFits : Table → Closing → Type 0
ClosingFits t (pooled close) = Unit {0}
ClosingFits t (own rule vector) = IsVector t vector

-- so does each leaf's own
unfoldable mutual
  pub TreeFits : Table → Tree → Type 0
  TreeFits t (leaf closing) = ClosingFits t closing
  TreeFits t (branch d children) = AllFit t children

  pub AllFit : Table → Trees → Type 0
  AllFit t nil = Unit {0}
  AllFit t (cons tree rest) = TreeFits t tree × AllFit t rest
