use Rattle.std.proofs.Common.{◌≡◌, ◌+◌, ◌-◌}
use Rattle.chisel_cert.specs.State.{state_of, each_at, behind}
use Rattle.chisel_cert.specs.Lines.{row_line_at}
use Rattle.chisel_cert.proofs.lines.row_lines.Given as goal

abbrev pub invariant-loop-index : goal.invariant-loop-index
invariant-loop-index l = record {
  line : l.rest.line ≡ l.at.line + l.index;
  same :
      behind l.all.items (each_at (row_line_at l.chosen) (l.count - l.index) (state_of l.rest))
      ≡ each_at (row_line_at l.chosen) l.count (state_of l.at);
}
