use Rattle.std.proofs.Common.{◌≡◌}
use Rattle.chisel_table.specs.Sums.{list_to}
use Rattle.chisel_bound.specs.Kept.{best_options}
use Rattle.chisel_cert.specs.Valid.{restated_row}
use Rattle.chisel_search.proofs.certify.restated_rows.Given as goal

abbrev pub invariant-loop-i : goal.invariant-loop-i
invariant-loop-i l = l.rows.items ≡ list_to l.i (restated_row l.t (best_options l.best))
