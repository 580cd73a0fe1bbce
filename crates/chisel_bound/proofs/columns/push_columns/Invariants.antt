use Rattle.std.proofs.Common.{◌*◌, ◌+◌}
use Rattle.chisel_table.specs.declared.table.TheConstants.{MAX_OPTIONS}
use Rattle.chisel_bound.specs.Columns.{AreColumnsTo}
use Rattle.chisel_bound.proofs.columns.push_columns.Given as goal

abbrev pub invariant-loop-option : goal.invariant-loop-option
invariant-loop-option l = AreColumnsTo l.t (MAX_OPTIONS * l.decision + l.option) l.columns.items
