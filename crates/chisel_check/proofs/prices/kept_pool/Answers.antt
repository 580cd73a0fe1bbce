use Rattle.std.proofs.Common.{arith, sym, ◌∙◌}
use Rattle.chisel_cert.specs.Node.{vectors_of}
use Rattle.chisel_check.proofs.Keeping.{vector_of, pool_vector, kept_more}
use Rattle.chisel_check.proofs.prices.kept_pool.Goals as goal

pub kept-requires-clause-vector : goal.kept-requires-clause-vector
kept-requires-clause-vector c = pool_vector c.args.t.now c.args.pool.now c.loop-k.k _ c.loop-k-test.true c.requires.pool

pub loop-k-preserved : goal.loop-k-preserved
loop-k-preserved c =
    kept_more c.args.t.now (vectors_of c.args.pool.now) c.loop-k.k c.loop-k.all c.kept.result (omega arith)
    (c.kept.ensures.vector ∙ sym (vector_of c.args.pool.now c.loop-k.k _ c.loop-k-test.true)) c.kept.ensures.kept c.loop-k.invariant
