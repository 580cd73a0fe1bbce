use Rattle.std.proofs.Common.{◌≡◌, ◌+◌, ◌-◌}
use Rattle.chisel_cert.specs.Node.{vectors_of}
use Rattle.chisel_cert.specs.State.{state_of, each_at, behind}
use Rattle.chisel_cert.specs.Lines.{vector_line_at}
use Rattle.chisel_cert.proofs.lines.vector_lines.Given as goal

abbrev pub invariant-loop-index : goal.invariant-loop-index
invariant-loop-index l = record {
  line : l.rest.line ≡ l.initial.rest.line + l.index;
  same :
      behind (vectors_of l.all.items) (each_at (vector_line_at l.rows) (l.count - l.index) (state_of l.rest))
      ≡ each_at (vector_line_at l.rows) l.count (state_of l.initial.rest);
}
