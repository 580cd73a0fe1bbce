use Rattle.std.proofs.Common.{arith, ap, ◌∙◌}
use Rattle.std.specs.Prelude.{slice_index}
use Rattle.chisel_table.specs.Tables.{energy_at}
use Rattle.chisel_table.proofs.Sums.{sum_none, sum_more}
use Rattle.chisel_table.proofs.Steps.{energy_part}
use Rattle.chisel_table.proofs.choice.options_energy.Goals as goal

pub loop-d-init : goal.loop-d-init
loop-d-init c = omega (arith, sum_none)

pub overflow_add-sum : goal.overflow_add-sum
overflow_add-sum c =
    let a = energy_part c.args.t.now c.args.options.now c.loop-d.d c.requires.table c.requires.choice (omega arith) in
    let e = c.energy_at-sum.ensures ∙ ap (energy_at c.args.t.now c.loop-d.d) c.from.ensures in
    omega (arith, a, e, c.loop-d.invariant)

pub loop-d-preserved : goal.loop-d-preserved
loop-d-preserved c =
    let e = c.energy_at-sum.ensures ∙ ap (energy_at c.args.t.now c.loop-d.d) c.from.ensures in
    omega (arith, e, sum_more c.loop-d.d (λ d. energy_at c.args.t.now d (slice_index c.args.options.now d)), c.loop-d.invariant)
