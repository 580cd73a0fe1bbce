use Rattle.std.proofs.Common.{◌≡◌, option_copied}
use Rattle.chisel_cert.specs.Valid.{restated_row}
use Rattle.chisel_table.specs.Sums.{list_to}
use Rattle.chisel_optimise.proofs.newest.restated_rows.Given as goal

abbrev pub invariant-loop-i : goal.invariant-loop-i
invariant-loop-i l = l.rows.items ≡ list_to l.i (restated_row l.t (option_copied l.choice))
