use Rattle.std.proofs.Common.{arith}
use Rattle.std.proofs.lemmas.Int.{ints}
use mir.Syntax.{w128}
use mir.Val.{SFits}
use Rattle.chisel_table.proofs.Steps.{charge_is, product_bound}
use Rattle.chisel_table.proofs.lagrangian.charge.Goals as goal

pub overflow_mul-result : goal.overflow_mul-result
overflow_mul-result c =
    let f : SFits w128 c.args.budget = c.ranges.budget in
    let b = product_bound c.args.multiplier c.args.budget c.requires.multiplier c.requires.low c.requires.high in
    rw (charge_is c.args.multiplier c.args.budget c.requires.multiplier f) (omega (arith, ints, b.0, b.1))
