use Rattle.std.proofs.Common.{arith, ap, sym, ◌∙◌}
use Rattle.chisel_table.specs.Lagrangian.{least_at, weight}
use Rattle.chisel_table.proofs.Sums.{sum_none, sum_more}
use Rattle.chisel_check.specs.Prices.{scale_of}
use Rattle.chisel_check.proofs.Keeping.{least_at-unfixed, least_at-fixed}
use Rattle.chisel_check.proofs.prices.weights_left.Goals as goal
use Rattle.chisel_check.proofs.prices.weights_left.Goals.{then-is_unfixed, else-is_unfixed}

pub loop-d-init : goal.loop-d-init
loop-d-init c = record { value = sym (sum_none _); bound = omega arith }

pub loop-d-preserved : goal.loop-d-preserved
loop-d-preserved c =
    let t = c.args.t.now in
    let w = weight t (scale_of c.args.priced) c.args.penalties.now.vector.now in
    let m = sum_more c.loop-d.d (least_at t w c.args.p.now) in
    elim c.if-is_unfixed.branch [
      | then-is_unfixed s ↦
          let at = least_at-unfixed t w c.args.p.now c.loop-d.d (sym c.is_unfixed.ensures ∙ s.if-is_unfixed.true) in
          let least = c.requires.least.least c.loop-d.d (omega arith) in
          let bound = c.requires.least.bound c.loop-d.d (omega arith) in
          record { value = omega (arith, m, at, least, s.sum-is, c.loop-d.invariant.value); bound = omega (arith, bound, s.sum-is, c.loop-d.invariant.bound) }
      | else-is_unfixed s ↦
          let at = least_at-fixed t w c.args.p.now c.loop-d.d (sym c.is_unfixed.ensures ∙ s.if-is_unfixed.false) in
          let fixed = s.weight-sum.ensures.value ∙ ap (w c.loop-d.d) s.from.ensures ∙ sym at in
          record {
            value = omega (arith, m, fixed, s.sum-is, c.loop-d.invariant.value);
            bound = omega (arith, s.weight-sum.ensures.bound, s.sum-is, c.loop-d.invariant.bound);
          }
    ]
