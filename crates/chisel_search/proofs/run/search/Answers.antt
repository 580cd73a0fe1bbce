use Rattle.std.proofs.Common.{ap, arith}
use Rattle.std.proofs.lemmas.Grind.{common_steps}
use Rattle.chisel_search.proofs.Finding.{found_in, goes_on_in, over_in}
use Rattle.chisel_search.proofs.run.search.Goals as goal

pub returns-in_err-machine-clause-nodes : goal.returns-in_err-machine-clause-nodes
returns-in_err-machine-clause-nodes g c =
    λ e. goes_on_in _ _ _ c.in_ok-differences.differences c.args.t.now c.args.pool.now.vectors
    (ap (λ x. x.now) c.in_ok-differences.ensures.table) (ap (λ x. x.now.vectors) c.in_ok-differences.ensures.pool) c.args.nodes
    (c.in_err-machine.ensures.nodes (grind (arith, common_steps, e)))

pub certify-requires : goal.certify-requires
certify-requires g c =
    let few = c.in_ok-machine.ensures.visits in
    let r = c.ranges.nodes.fits in
    over_in _ _ _ c.in_ok-differences.differences c.args.t.now c.args.pool.now.vectors
    (ap (λ x. x.now) c.in_ok-differences.ensures.table) (ap (λ x. x.now.vectors) c.in_ok-differences.ensures.pool)
    c.in_ok-machine.machine c.in_ok-machine.ensures.ended _ c.requires.table c.requires.zeros c.requires.rule (omega arith)

pub returns-clause-found : goal.returns-clause-found
returns-clause-found g c =
    found_in _ _ _ c.in_ok-differences.differences c.args.t.now c.args.pool.now.vectors
    (ap (λ x. x.now) c.in_ok-differences.ensures.table) (ap (λ x. x.now.vectors) c.in_ok-differences.ensures.pool)
    c.in_ok-machine.machine c.in_ok-machine.ensures.ended _ c.requires.table c.requires.zeros c.requires.rule c.in_ok-certify.field-0 c.in_ok-certify.ensures
