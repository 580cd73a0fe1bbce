use Rattle.std.proofs.Common.{◌≡◌, ◌*◌, ◌≤◌, ◌++◌, length, take, map}
use Rattle.chisel_table.specs.declared.table.TheConstants.{MAX_OPTIONS}
use Rattle.chisel_table.specs.Tables.{decision_count}
use Rattle.chisel_table.specs.Partials.{nothing_fixed}
use Rattle.chisel_bound.specs.Kept.{bounds_with}
use Rattle.chisel_bound.proofs.differences.Differences.start.Given as goal

abbrev pub invariant-loop-vector : goal.invariant-loop-vector
invariant-loop-vector l = record {
  grid : MAX_OPTIONS * decision_count l.self.table.now ≤ length l.grid.items;
  bounds : l.bounds.items ≡ l.initial.bounds.items ++ map (bounds_with l.self.table.now (nothing_fixed l.self.table.now)) (take l.vector-index l.vector-items);
}
