use Rattle.std.proofs.Common.{arith}
use Rattle.chisel_table.proofs.Grids.{adds_none, adds_more, adds_all}
use Rattle.chisel_table.proofs.grid.add_multiples.Goals as goal

pub loop-o-init : goal.loop-o-init
loop-o-init c = adds_none c.args.grid.now c.args.spent.now c.args.from c.args.multiplier

pub loop-o-preserved : goal.loop-o-preserved
loop-o-preserved c =
    let r = c.requires.inside in
    adds_more c.args.grid.now c.loop-o.grid c.args.spent.now c.args.from c.args.multiplier c.loop-o.o (omega arith) (omega arith) c.loop-o.invariant

pub returns : goal.returns
returns c = adds_all c.args.grid.now c.loop-o.grid c.args.spent.now c.args.from c.args.multiplier c.loop-o.o (omega arith) c.loop-o.invariant
