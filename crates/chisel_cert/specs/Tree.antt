-- Certificates as plain data: no place in an arena, no reference.
use Rattle.std.specs.Prelude.{ℕ, ◌+◌, List, Option}
use Rattle.chisel_table.specs.declared.closing.Close.{Close}
use Rattle.chisel_table.specs.declared.closing.CloseRule.{CloseRule}
use Rattle.chisel_cert.specs.declared.cert.Restated.{Restated}

-- why a part is closed: by a rule with the number of its row or vector, or by a rule with a vector of its own
pub data Closing : Type 0 where
  pooled : Close → Closing
  own : CloseRule → List ℕ → Closing

mutual
  -- a closed part, or a decision with a tree for each of its options
  pub data Tree : Type 0 where
    leaf : Closing → Tree
    branch : ℕ → Trees → Tree

  -- trees in order
  pub data Trees : Type 0 where
    nil : Trees
    cons : Tree → Trees → Trees

unfoldable pub count : Trees → ℕ
count nil = 0
count (cons tree rest) = count rest + 1

-- how many nodes a tree has
unfoldable mutual
  pub nodes : Tree → ℕ
  nodes (leaf closing) = 1
  nodes (branch decision children) = nodes_of children + 1

  pub nodes_of : Trees → ℕ
  nodes_of nil = 0
  nodes_of (cons tree rest) = nodes tree + nodes_of rest

-- a certificate: the sizes of its table, the choice that it claims with its energy, the table's rows told again, the pool of vectors, and a tree with so many nodes
pub record Certificate : Type 0 where
  pub version : ℕ
  pub decisions : ℕ
  pub rows : ℕ
  pub choice : Option (List ℕ)
  pub energy : Option ℕ
  pub restated : List Restated
  pub pool : List (List ℕ)
  pub nodes : ℕ
  pub root : Tree
