use Rattle.std.proofs.Common.{◌≡◌, ◌++◌, drop}
use Rattle.chisel_cert.specs.Node.{vectors_of}
use Rattle.chisel_cert.specs.Text.{vector_lines}
use Rattle.chisel_cert.proofs.writer.vector_lines.Given as goal

abbrev pub invariant-loop-vector : goal.invariant-loop-vector
invariant-loop-vector l =
    l.out.items ++ vector_lines (vectors_of (drop l.vector-index l.vectors)) ≡ l.initial.out.items ++ vector_lines (vectors_of l.vectors)
