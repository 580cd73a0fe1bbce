use Rattle.std.proofs.Common.{arith}
use Rattle.std.proofs.lemmas.Int.{ints}
use Rattle.chisel_bound.proofs.Ascents.{penalty_grid}
use Rattle.chisel_bound.proofs.Nothing.{penalties_on}
use Rattle.chisel_bound.proofs.differences.first_excess.Goals as goal

pub least_weights-requires-clause-grid : goal.least_weights-requires-clause-grid
least_weights-requires-clause-grid c = penalty_grid c.args.t.now c.args.l.now c.args.grid.now c.requires.table c.requires.vector c.requires.grid

pub returns : goal.returns
returns c =
    let e = penalties_on c.args.t.now c.args.l.now c.args.grid.now c.requires.table.few_decisions c.requires.grid in
    omega (arith, ints, e, c.least_weights.ensures.value, c.least_weights.ensures.bound, c.allowance.ensures.value)
