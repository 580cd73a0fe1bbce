use Rattle.std.proofs.Common.{arith, ◌≡◌, ◌∙◌, ◌*◌, ◌+◌}
use Rattle.std.specs.Prelude.{slice_index}
use Rattle.chisel_table.specs.Tables.{spent_at}
use Rattle.chisel_table.proofs.Sums.{sum_none, sum_more}
use Rattle.chisel_table.proofs.Steps.{penalty_part}
use Rattle.chisel_table.proofs.lagrangian.penalty.Goals as goal

pub loop-i-init : goal.loop-i-init
loop-i-init c = omega (arith, sum_none)

pub overflow_add-sum : goal.overflow_add-sum
overflow_add-sum c =
    let a = penalty_part c.args.t.now c.args.l.now c.args.decision c.args.option (c.loop-i.i + 1) c.requires.table c.requires.vector c.requires.decision c.requires.option (omega arith) in
    let b = sum_more c.loop-i.i (λ i. slice_index c.args.l.now i * spent_at c.args.t.now i c.args.decision c.args.option) in
    let e : c.from.result * c.from-in-loop-i.result ≡ slice_index c.args.l.now c.loop-i.i * spent_at c.args.t.now c.loop-i.i c.args.decision c.args.option = λ i. c.from.ensures i * (c.from-in-loop-i.ensures ∙ c.spent_at.ensures) i in
    omega (arith, a, b, e, c.loop-i.invariant)

pub loop-i-preserved : goal.loop-i-preserved
loop-i-preserved c =
    let b = sum_more c.loop-i.i (λ i. slice_index c.args.l.now i * spent_at c.args.t.now i c.args.decision c.args.option) in
    let e : c.from.result * c.from-in-loop-i.result ≡ slice_index c.args.l.now c.loop-i.i * spent_at c.args.t.now c.loop-i.i c.args.decision c.args.option = λ i. c.from.ensures i * (c.from-in-loop-i.ensures ∙ c.spent_at.ensures) i in
    omega (arith, b, e, c.loop-i.invariant)

pub returns-clause-bound : goal.returns-clause-bound
returns-clause-bound c =
    let a = penalty_part c.args.t.now c.args.l.now c.args.decision c.args.option c.loop-i.i c.requires.table c.requires.vector c.requires.decision c.requires.option (omega arith) in
    omega (arith, a, c.loop-i.invariant)
