use Rattle.std.proofs.Common.{◌≡◌, take}
use Rattle.chisel_cert.specs.Node.{vectors_of}
use Rattle.chisel_search.proofs.certify.vectors_copied.Given as goal

abbrev pub invariant-loop-vector : goal.invariant-loop-vector
invariant-loop-vector l = vectors_of l.vectors.items ≡ take l.vector-index l.pool.vectors
