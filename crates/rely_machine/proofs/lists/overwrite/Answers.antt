use Rattle.std.proofs.Common.{◌≡◌, length, ◌∙◌, arith}
use Rattle.rely_machine.proofs.Putting.{all_put, put_next}
use Rattle.rely_machine.proofs.lists.overwrite.Goals as goal

pub loop-i-preserved : goal.loop-i-preserved
loop-i-preserved g c = c.set.ensures ∙ put_next c.args.items.now c.args.row.now c.loop-i.row c.loop-i.i c.index-items-i.result c.index-items-i.result c.loop-i.invariant c.loop-i-test.true (omega (arith, c.loop-i-test.true, c.requires)) c.index-items-i.is

pub returns : goal.returns
returns g c =
    let end : c.loop-i.i ≡ length c.args.items.now = omega (arith, c.loop-i-test.false, c.loop-i.auto.i-end) in
    c.loop-i.invariant ∙ all_put c.args.items.now c.args.row.now c.loop-i.i end (end ∙ c.requires)
