use Rattle.std.proofs.Common.{arith}
use Rattle.std.proofs.lemmas.Int.{ints}
use Rattle.chisel_table.proofs.Steps.{without_energy}
use Rattle.chisel_table.proofs.lagrangian.excess.Goals as goal

pub returns : goal.returns
returns c =
    let e = without_energy c.args.t.now c.args.l.now c.args.p.now in
    omega (arith, ints, e, c.least_weights.ensures.value, c.allowance.ensures.value)
