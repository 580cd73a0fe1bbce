use Rattle.std.proofs.Common.{◌≡◌, ◌++◌, drop}
use Rattle.chisel_cert.specs.Text.{row_lines}
use Rattle.chisel_cert.proofs.writer.row_lines.Given as goal

abbrev pub invariant-loop-row : goal.invariant-loop-row
invariant-loop-row l = l.out.items ++ row_lines (drop l.row-index l.rows) ≡ l.initial.out.items ++ row_lines l.rows
