use Rattle.std.proofs.Common.{arith, rules, ap, ◌∙◌, ◌<◌, length}
use Rattle.std.proofs.lemmas.Int.{to_z-of_z}
use mir.Syntax.{w128}
use mir.Val.{SFits}
use lib.IntN.{pos, ◌-ℤ◌}
use Rattle.chisel_table.specs.Tables.{row_count, budget_at}
use Rattle.chisel_bound.specs.Ascent.{first_step, moved}
use Rattle.chisel_bound.proofs.Lists.{length_listed}
use Rattle.chisel_bound.proofs.Ascents.{penalty_grid, step_is, step_below, cheapest_spent, moved_more, moved_all}
use Rattle.chisel_bound.proofs.climb.round.Goals as goal

pub cheapest_options-options-requires-clause-grid : goal.cheapest_options-options-requires-clause-grid
cheapest_options-options-requires-clause-grid c =
    penalty_grid c.args.t.now c.args.l.now c.write_penalties.new.grid c.requires.table c.requires.vector c.write_penalties.ensures

pub bounds-steps-i : goal.bounds-steps-i
bounds-steps-i c =
    let a = ap length c.requires.steps in
    let b = length_listed (row_count c.args.t.now) (first_step c.args.t.now) in
    omega (arith, a, b)

pub moved-requires-clause-step : goal.moved-requires-clause-step
moved-requires-clause-step c =
    let e = step_is c.args.t.now c.args.steps.now c.args.number c.loop-i.i c.requires.steps (omega arith) in
    let b = step_below c.args.t.now c.args.number c.loop-i.i in
    omega (arith, e, b, c.max-step.ensures)

pub loop-i-preserved : goal.loop-i-preserved
loop-i-preserved c =
    let t = c.args.t.now in
    let l = c.args.l.now in
    let i = c.loop-i.i in
    let k : i < row_count t = omega arith in
    let a = c.loop-i.invariant.left i (omega arith) in
    let b = c.max-step.ensures ∙ step_is t c.args.steps.now c.args.number i c.requires.steps k in
    let s = cheapest_spent t l c.write_penalties.new.grid c.cheapest_options-options.result i c.write_penalties.ensures c.cheapest_options-options.ensures in
    let f : SFits w128 c.gap.result = search rules in
    let g = to_z-of_z w128 c.gap.result f ∙ c.gap.ensures ∙ ap (λ x. pos x -ℤ budget_at t i) s in
    moved_more t c.args.number i c.moved.result l c.loop-i.l k (c.moved.ensures ∙ (λ j. moved (a j) (b j) (g j))) c.loop-i.invariant

pub returns : goal.returns
returns c = moved_all c.args.t.now c.args.number c.loop-i.i c.args.l.now c.loop-i.l (omega arith) c.loop-i.invariant
