use Rattle.std.proofs.Common.{arith, rules, ap, sym, ◌∙◌}
use Rattle.std.specs.Prelude.{slice_index}
use Rattle.std.proofs.lemmas.Int.{ints, to_z-of_z}
use mir.Syntax.{w128}
use mir.Val.{SFits}
use lib.IntN.{pos, ◌*ℤ◌}
use Rattle.chisel_table.specs.Tables.{budget_at}
use Rattle.chisel_table.proofs.Sums.{int_sum_none, int_sum_more}
use Rattle.chisel_table.proofs.lagrangian.allowance.Goals as goal

pub loop-i-init : goal.loop-i-init
loop-i-init c = record { value = sym (int_sum_none _); least = omega (arith, ints); greatest = omega (arith, ints) }

pub loop-i-preserved : goal.loop-i-preserved
loop-i-preserved c =
    let m = int_sum_more c.loop-i.i (λ i. pos (slice_index c.args.l.now i) *ℤ budget_at c.args.t.now i) in
    let f : SFits w128 c.budget_at.result = search rules in
    let v = rw (to_z-of_z w128 c.budget_at.result f) at c.charge-sum.ensures.value in
    let q = v ∙ ap (λ b. pos (slice_index c.args.l.now c.loop-i.i) *ℤ b) c.budget_at.ensures in
    record {
      value = omega (arith, ints, m, q, c.loop-i.invariant.value);
      least = omega (arith, ints, c.charge-sum.ensures.least, c.loop-i.invariant.least);
      greatest = omega (arith, ints, c.charge-sum.ensures.greatest, c.loop-i.invariant.greatest);
    }
