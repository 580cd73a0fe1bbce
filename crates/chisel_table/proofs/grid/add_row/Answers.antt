use Rattle.std.proofs.Common.{arith, rules}
use Rattle.chisel_table.proofs.Grids.{half_none, half_room, half_more, half_all}
use Rattle.chisel_table.proofs.grid.add_row.Goals as goal

pub loop-d-init : goal.loop-d-init
loop-d-init c = half_none c.args.t.now c.args.l.now c.args.row c.args.grid.now c.requires.grid

pub add_multiples-requires : goal.add_multiples-requires
add_multiples-requires c =
    half_room c.args.t.now c.args.l.now c.args.row c.loop-d.d c.loop-d.grid c.debits_of-spent.result.now c.requires.table c.requires.vector c.requires.row (omega arith)
    c.debits_of-spent.ensures c.loop-d.invariant

pub loop-d-preserved : goal.loop-d-preserved
loop-d-preserved c =
    half_more c.args.t.now c.args.l.now c.args.row c.loop-d.d c.loop-d.grid c.debits_of-spent.result.now c.requires.table c.requires.vector c.requires.row (omega arith)
    c.debits_of-spent.ensures c.loop-d.invariant c.add_multiples.new.grid (search rules) c.add_multiples.ensures

pub returns : goal.returns
returns c = half_all c.args.t.now c.args.l.now c.args.row c.loop-d.d c.loop-d.grid (omega arith) c.loop-d.invariant
