use Rattle.std.proofs.Common.{arith}
use Rattle.chisel_check.proofs.Keeping.{penalty_kept}
use Rattle.chisel_check.proofs.prices.weight.Goals as goal

pub overflow_add-result : goal.overflow_add-result
overflow_add-result c =
    let p = penalty_kept c.args.t.now c.args.penalties.now c.args.decision c.args.option c.requires.table c.requires.penalties c.requires.decision c.requires.option in
    omega (arith, p.1, c.energy_at.type_inv)

pub returns-then-priced-clause-value : goal.returns-then-priced-clause-value
returns-then-priced-clause-value c =
    let p = penalty_kept c.args.t.now c.args.penalties.now c.args.decision c.args.option c.requires.table c.requires.penalties c.requires.decision c.requires.option in
    rw c.if-priced.true (omega (arith, p.0, c.energy_at.ensures))

pub returns-then-priced-clause-bound : goal.returns-then-priced-clause-bound
returns-then-priced-clause-bound c =
    let p = penalty_kept c.args.t.now c.args.penalties.now c.args.decision c.args.option c.requires.table c.requires.penalties c.requires.decision c.requires.option in
    omega (arith, p.1, c.energy_at.type_inv)

pub returns-else-priced-clause-value : goal.returns-else-priced-clause-value
returns-else-priced-clause-value c =
    let p = penalty_kept c.args.t.now c.args.penalties.now c.args.decision c.args.option c.requires.table c.requires.penalties c.requires.decision c.requires.option in
    rw c.if-priced.false (omega (arith, p.0))

pub returns-else-priced-clause-bound : goal.returns-else-priced-clause-bound
returns-else-priced-clause-bound c =
    let p = penalty_kept c.args.t.now c.args.penalties.now c.args.decision c.args.option c.requires.table c.requires.penalties c.requires.decision c.requires.option in
    omega (arith, p.1)
