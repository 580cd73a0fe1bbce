use Rattle.std.proofs.Common.{arith, ap, ◌∙◌}
use Rattle.std.specs.Prelude.{slice_index}
use Rattle.chisel_table.specs.Tables.{spent_at}
use Rattle.chisel_table.proofs.Sums.{sum_none, sum_more}
use Rattle.chisel_table.proofs.Steps.{spent_part}
use Rattle.chisel_table.proofs.choice.options_spent.Goals as goal

pub loop-d-init : goal.loop-d-init
loop-d-init c = omega (arith, sum_none)

pub overflow_add-sum : goal.overflow_add-sum
overflow_add-sum c =
    let a = spent_part c.args.t.now c.args.row c.args.options.now c.loop-d.d c.requires.table c.requires.row c.requires.choice (omega arith) in
    let b = c.requires.table.debits c.args.row c.loop-d.d (slice_index c.args.options.now c.loop-d.d) c.requires.row (omega arith) (c.requires.choice.in_range c.loop-d.d (omega arith)) in
    let e = c.spent_at.ensures ∙ ap (spent_at c.args.t.now c.args.row c.loop-d.d) c.from.ensures in
    omega (arith, a, b, e, c.loop-d.invariant)

pub loop-d-preserved : goal.loop-d-preserved
loop-d-preserved c =
    let e = c.spent_at.ensures ∙ ap (spent_at c.args.t.now c.args.row c.loop-d.d) c.from.ensures in
    omega (arith, e, sum_more c.loop-d.d (λ d. spent_at c.args.t.now c.args.row d (slice_index c.args.options.now d)), c.loop-d.invariant)

pub returns-clause-bound : goal.returns-clause-bound
returns-clause-bound c =
    let a = spent_part c.args.t.now c.args.row c.args.options.now c.loop-d.d c.requires.table c.requires.row c.requires.choice (omega arith) in
    omega (arith, a, c.loop-d.invariant)
