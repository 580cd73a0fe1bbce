use Rattle.std.proofs.Common.{arith, ap, sym, ◌≡◌, ◌<◌, length, true}
use Rattle.std.specs.Prelude.{option_copied}
use Rattle.std.proofs.lemmas.Grind.{common_steps}
use Rattle.chisel_table.specs.Closings.{vector_closes, vector_at}
use Rattle.chisel_table.proofs.Sums.{first_is, first_nowhere}
use Rattle.chisel_bound.proofs.closing.first_vector.Goals as goal

pub returns-then-vector_closes : goal.returns-then-vector_closes
returns-then-vector_closes c =
    let pool = c.args.pool.now.vectors in
    let l : c.loop-j.j < length pool = omega (arith, ap length c.as_slice-vectors.ensures) in
    let h : vector_closes c.args.t.now (option_copied c.args.best) c.args.p.now c.args.rule (vector_at pool c.loop-j.j) ≡ true = grind (arith, common_steps) in
    sym (first_is (length pool) (λ j. vector_closes c.args.t.now (option_copied c.args.best) c.args.p.now c.args.rule (vector_at pool j)) c.loop-j.j l h c.loop-j.invariant)

pub returns : goal.returns
returns c =
    let pool = c.args.pool.now.vectors in
    sym (first_nowhere (length pool) (λ j. vector_closes c.args.t.now (option_copied c.args.best) c.args.p.now c.args.rule (vector_at pool j))
    (λ k l. c.loop-j.invariant k (omega (arith, ap length c.as_slice-vectors.ensures))))
