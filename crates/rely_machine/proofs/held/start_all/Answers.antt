use Rattle.std.proofs.Common.{◌≡◌, ◌∷◌, [], length, sym, ap, ◌∙◌, arith, rules}
use Rattle.std.specs.Option.{option_map_or}
use Rattle.rely_kernel.specs.Machine.{zeros}
use Rattle.rely_machine.specs.Starts.{started}
use Rattle.rely_machine.proofs.Holding.{started_at, started_long}
use Rattle.rely_machine.proofs.Putting.{all_put, mixed_long, put_next}
use Rattle.rely_machine.proofs.held.start_all.Goals as goal

pub index_mut-requires : goal.index_mut-requires
index_mut-requires c =
    let many : length c.loop-i.cells.items ≡ length c.resize.new.cells.items = ap length c.loop-i.invariant ∙ mixed_long (started c.args.vars.now c.args.arguments.now) c.resize.new.cells.items c.loop-i.i (omega (arith, c.loop-i-test.true, started_long c.args.vars.now c.args.arguments.now)) (omega (arith, c.loop-i-test.true, c.in_ok-resize.ensures)) in
    let o = c.loop-i.cells.ok in
    omega (arith, o, many, c.loop-i-test.true, c.in_ok-resize.ensures)

pub loop-i-preserved : goal.loop-i-preserved
loop-i-preserved c =
    let vars = c.args.vars.now in
    let zs = c.args.arguments.now in
    let at = sym (started_at vars zs c.loop-i.i c.index-vars-i.result (search rules) c.loop-i-test.true) in
    put_next (started vars zs) c.resize.new.cells.items c.loop-i.cells.items c.loop-i.i c.start_one.new.cell [] c.loop-i.invariant (rw (started_long vars zs) c.loop-i-test.true) (omega (arith, c.loop-i-test.true, c.in_ok-resize.ensures))
    (c.in_ok-start_one.ensures ∙ (ap (λ o. option_map_or (λ z. z ∷ []) o (zeros c.index-vars-i.result)) (search rules) ∙ at))

pub returns : goal.returns
returns c =
    let end : c.loop-i.i ≡ length c.args.vars.now = omega (arith, c.loop-i-test.false, c.loop-i.auto.i-end) in
    c.loop-i.invariant ∙ all_put (started c.args.vars.now c.args.arguments.now) c.resize.new.cells.items c.loop-i.i (end ∙ sym (started_long c.args.vars.now c.args.arguments.now)) (end ∙ sym c.in_ok-resize.ensures)
