-- A certificate in the version that is printed.
use Rattle.chisel_table.specs.declared.table.Table.{Table}
use Rattle.chisel_cert.specs.Tree.{Certificate}
use Rattle.chisel_search.specs.Printed.{restated_rows}

-- the same choice, pool and tree, and the rows of the table told again
abbrev pub migrated : Table → Certificate → Certificate
migrated t c = record {
  version = 2;
  decisions = c.decisions;
  rows = c.rows;
  choice = c.choice;
  energy = c.energy;
  restated = restated_rows t c.choice;
  pool = c.pool;
  nodes = c.nodes;
  root = c.root;
}
