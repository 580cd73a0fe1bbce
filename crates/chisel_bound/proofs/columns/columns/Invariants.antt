use Rattle.std.proofs.Common.{◌*◌}
use Rattle.chisel_table.specs.declared.table.TheConstants.{MAX_OPTIONS}
use Rattle.chisel_bound.specs.Columns.{AreColumnsTo}
use Rattle.chisel_bound.proofs.columns.columns.Given as goal

abbrev pub invariant-loop-d : goal.invariant-loop-d
invariant-loop-d l = AreColumnsTo l.t (MAX_OPTIONS * l.d) l.columns.items
