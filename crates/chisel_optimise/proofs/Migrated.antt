-- A valid certificate, written again in the version that is printed, is valid and within the limits.
use Rattle.std.proofs.Common.{ℕ, ◌-◌, refl, sym, ◌∙◌, arith, None}
use Rattle.chisel_table.specs.Tables.{row_count}
use Rattle.chisel_bound.proofs.Lists.{length_listed, listed_at}
use Rattle.chisel_cert.specs.Ranges.{AreNodes, IsClosing, IsNode}
use Rattle.chisel_cert.specs.Tree.{Closing, pooled, own, Tree, leaf, branch, Trees, nil, cons}
use Rattle.chisel_cert.specs.Valid.{restated_row}
use Rattle.chisel_optimise.specs.Printing.{MigratedIsValid, MigratedIsWithin}
use Rattle.chisel_optimise.proofs.Within.{rows_restated}
use lib.IntN.{pos}

pub migrated_valid : MigratedIsValid
migrated_valid t c v = record {
  decisions_are = v.decisions_are;
  rows_are = v.rows_are;
  choice_meets = v.choice_meets;
  energy_is = v.energy_is;
  restated_are = λ two i l. listed_at (row_count t) (restated_row t c.choice) i (record { budget = pos 0; spent = None }) l;
  tree_is = v.tree_is;
}

closing_newer : (version rows : ℕ) (closing : Closing) → IsClosing version rows closing → IsClosing 2 rows closing
closing_newer version rows (pooled close) h = h
closing_newer version rows (own rule vector) h = (refl, h.1, h.2)

mutual
  unfolding IsNode AreNodes

  -- what is a node of an older version is one of the newest
  node_newer : (version rows depth : ℕ) (x : Tree) → IsNode version rows depth x → IsNode 2 rows depth x
  node_newer version rows depth (leaf closing) h = closing_newer version rows closing h
  node_newer version rows depth (branch decision children) h = (h.0, h.1, h.2, nodes_newer version rows (depth - 1) children h.3)

  nodes_newer : (version rows depth : ℕ) (xs : Trees) → AreNodes version rows depth xs → AreNodes 2 rows depth xs
  nodes_newer version rows depth nil h = tt
  nodes_newer version rows depth (cons x xs) h = (node_newer version rows depth x h.0, nodes_newer version rows depth xs h.1)

pub migrated_within : MigratedIsWithin
migrated_within t c table w v = record {
  version = (omega arith, omega arith);
  decisions = w.decisions;
  rows = w.rows;
  choice = w.choice;
  energy = w.energy;
  restated_rows = length_listed (row_count t) (restated_row t c.choice) ∙ sym v.rows_are;
  restated = rows_restated t c.choice table v.choice_meets;
  vectors = w.vectors;
  pool = w.pool;
  most_nodes = w.most_nodes;
  nodes = w.nodes;
  root = node_newer c.version c.rows 256 c.root w.root;
}
