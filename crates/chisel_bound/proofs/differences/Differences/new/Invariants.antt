use Rattle.std.proofs.Common.{◌*◌, ◌≤◌, length}
use Rattle.chisel_table.specs.declared.table.TheConstants.{MAX_OPTIONS}
use Rattle.chisel_table.specs.Tables.{decision_count}
use Rattle.chisel_bound.proofs.Adding.{AddedTo}
use Rattle.chisel_bound.proofs.differences.Differences.new.Given as goal

abbrev pub invariant-loop-j : goal.invariant-loop-j
invariant-loop-j l = record {
  grid : MAX_OPTIONS * decision_count l.table ≤ length l.grid.items;
  added : AddedTo l.table l.pool.vectors l.j l.added.items;
}
