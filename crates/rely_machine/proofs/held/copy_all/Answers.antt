use Rattle.std.proofs.Common.{◌≡◌, length, sym, ap, ◌∙◌, arith, rules}
use Rattle.rely_machine.proofs.Putting.{all_put, mixed_long, put_next}
use Rattle.rely_machine.proofs.held.copy_all.Goals as goal

pub index_mut-requires : goal.index_mut-requires
index_mut-requires c =
    let many : length c.loop-i.cells.items ≡ length c.resize.new.cells.items = ap length c.loop-i.invariant ∙ mixed_long c.args.rows.now c.resize.new.cells.items c.loop-i.i (omega (arith, c.loop-i-test.true)) (omega (arith, c.loop-i-test.true, c.in_ok-resize.ensures)) in
    let o = c.loop-i.cells.ok in
    omega (arith, o, many, c.loop-i-test.true, c.in_ok-resize.ensures)

pub loop-i-preserved : goal.loop-i-preserved
loop-i-preserved c =
    put_next c.args.rows.now c.resize.new.cells.items c.loop-i.cells.items c.loop-i.i c.copy_one.new.cell c.index-rows-i.result c.loop-i.invariant c.loop-i-test.true (omega (arith, c.loop-i-test.true, c.in_ok-resize.ensures))
    (c.in_ok-copy_one.ensures ∙ (c.as_slice.ensures ∙ search rules))

pub returns : goal.returns
returns c =
    let end : c.loop-i.i ≡ length c.args.rows.now = omega (arith, c.loop-i-test.false, c.loop-i.auto.i-end) in
    c.loop-i.invariant ∙ all_put c.args.rows.now c.resize.new.cells.items c.loop-i.i end (end ∙ sym c.in_ok-resize.ensures)
