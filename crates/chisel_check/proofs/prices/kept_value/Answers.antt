use Rattle.std.proofs.Common.{arith}
use Rattle.std.proofs.lemmas.Int.{ints}
use Rattle.chisel_check.proofs.Keeping.{allowance_bounds}
use Rattle.chisel_check.proofs.prices.kept_value.Goals as goal

pub difference-requires-clause-low : goal.difference-requires-clause-low
difference-requires-clause-low c =
    let bounds = allowance_bounds c.args.t.now c.args.kept.now.penalties.vector.now c.requires.table c.requires.kept.penalties.vector in omega (arith, ints, bounds.0, c.requires.kept.allowance)

pub difference-requires-clause-high : goal.difference-requires-clause-high
difference-requires-clause-high c =
    let bounds = allowance_bounds c.args.t.now c.args.kept.now.penalties.vector.now c.requires.table c.requires.kept.penalties.vector in omega (arith, ints, bounds.1, c.requires.kept.allowance)
