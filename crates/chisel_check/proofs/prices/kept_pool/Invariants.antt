use Rattle.chisel_cert.specs.Node.{vectors_of}
use Rattle.chisel_check.specs.Prices.{AreKept}
use Rattle.chisel_check.proofs.prices.kept_pool.Given as goal

abbrev pub invariant-loop-k : goal.invariant-loop-k
invariant-loop-k l = AreKept l.t (vectors_of l.pool) l.k l.all
