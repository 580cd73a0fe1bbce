-- The vectors of a certificate within the limits fit a table of its sizes.
use Rattle.std.proofs.Common.{◌≡◌, ℕ, zero, suc, ◌-◌, ◌≤◌, List, [], ◌∷◌, get_or, Option, Some, None, ◌∙◌, arith}
use Rattle.std.specs.List.{AllByRecursion}
use Rattle.chisel_table.specs.declared.table.Table.{Table}
use Rattle.chisel_table.specs.Closings.{IsBest}
use Rattle.chisel_table.specs.Lagrangian.{IsVector}
use Rattle.chisel_table.specs.Tables.{row_count}
use Rattle.chisel_cert.specs.Tree.{Closing, pooled, own, Tree, leaf, branch, Trees, nil, cons}
use Rattle.chisel_cert.specs.Ranges.{IsMultipliers, IsClosing, IsNode, AreNodes}
use Rattle.chisel_cert.specs.Valid.{IsClaimed}
use Rattle.chisel_check.specs.Walk.{IsPool, ClosingFits, TreeFits, AllFit}

each_below : (last : ℕ) (ns : List ℕ) (i : ℕ) → AllByRecursion (λ n. n ≤ last) ns → get_or ns i 0 ≤ last
each_below last [] i all = omega arith
each_below last (n ∷ ns) zero all = all.0
each_below last (n ∷ ns) (suc i) all = each_below last ns i all.1

vector_fits : (t : Table) (rows : ℕ) (vector : List ℕ) → rows ≡ row_count t → IsMultipliers rows vector → IsVector t vector
vector_fits t rows vector same h = record { size = h.0 ∙ same; in_range = λ i less. each_below _ vector i h.1 }

pub pool_fits : (t : Table) (rows : ℕ) (pool : List (List ℕ)) → rows ≡ row_count t → AllByRecursion (IsMultipliers rows) pool → IsPool t pool
pool_fits t rows [] same all j less = absurd (omega arith)
pool_fits t rows (vector ∷ pool) same all zero less = vector_fits t rows vector same all.0
pool_fits t rows (vector ∷ pool) same all (suc j) less = pool_fits t rows pool same all.1 j (omega arith)

closing_fits : (t : Table) (version rows : ℕ) (closing : Closing) → rows ≡ row_count t → IsClosing version rows closing → ClosingFits t closing
closing_fits t version rows (pooled close) same h = tt
closing_fits t version rows (own rule vector) same h = vector_fits t rows vector same h.2

mutual
  unfolding IsNode TreeFits

  pub tree_fits : (t : Table) (version rows depth : ℕ) (tree : Tree) → rows ≡ row_count t → IsNode version rows depth tree → TreeFits t tree
  tree_fits t version rows depth (leaf closing) same h = closing_fits t version rows closing same h
  tree_fits t version rows depth (branch d children) same h = trees_fit t version rows (depth - 1) children same h.3

  trees_fit : (t : Table) (version rows depth : ℕ) (trees : Trees) → rows ≡ row_count t → AreNodes version rows depth trees → AllFit t trees
  trees_fit t version rows depth nil same h = tt
  trees_fit t version rows depth (cons tree rest) same h = (tree_fits t version rows depth tree same h.0, trees_fit t version rows depth rest same h.1)

-- a choice that meets every row is one of the table
pub claimed_best : (t : Table) (choice : Option (List ℕ)) → IsClaimed t choice → IsBest t choice
claimed_best t (Some options) h = h.0
claimed_best t None h = tt
