use Rattle.std.proofs.Common.{◌≡◌, ◌<◌, length, replicate, sym, ◌∙◌, arith}
use Rattle.rely_machine.proofs.Putting.{all_put, copies_at, copies_long, put_next}
use Rattle.rely_machine.proofs.lists.fill.Goals as goal

pub loop-i-preserved : goal.loop-i-preserved
loop-i-preserved g c =
    let z = c.args.item in
    let xs = c.args.row.now in
    let below : c.loop-i.i < length xs = omega (arith, c.loop-i-test.true, c.len-i-end.ensures) in
    c.set.ensures ∙ put_next (replicate (length xs) z) xs c.loop-i.row c.loop-i.i z z c.loop-i.invariant (rw (copies_long (length xs) z) below) below (sym (copies_at (length xs) c.loop-i.i z))

pub returns : goal.returns
returns g c =
    let z = c.args.item in
    let xs = c.args.row.now in
    let end : c.loop-i.i ≡ length xs = omega (arith, c.loop-i-test.false, c.loop-i.auto.i-end, c.len-i-end.ensures) in
    c.loop-i.invariant ∙ all_put (replicate (length xs) z) xs c.loop-i.i (end ∙ sym (copies_long (length xs) z)) end
