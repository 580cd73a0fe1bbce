use Rattle.std.proofs.Common.{arith, sym, ◌∙◌}
use Rattle.chisel_table.specs.Lagrangian.{weight}
use Rattle.chisel_table.proofs.Sums.{least_one, least_more}
use Rattle.chisel_check.specs.Prices.{scale_of}
use Rattle.chisel_check.proofs.prices.least_weight.Goals as goal

pub loop-option-init : goal.loop-option-init
loop-option-init c = record {
  value = c.weight-least.ensures.value ∙ sym (least_one (weight c.args.t.now (scale_of c.args.priced) c.args.penalties.now.vector.now c.args.decision));
  bound = c.weight-least.ensures.bound;
}

pub loop-option-preserved : goal.loop-option-preserved
loop-option-preserved c =
    let m = least_more c.loop-option.option (weight c.args.t.now (scale_of c.args.priced) c.args.penalties.now.vector.now c.args.decision) (omega arith) in
    let u = c.loop-option.invariant.value in
    let b = c.loop-option.invariant.bound in
    record { value = omega (arith, m, u); bound = omega arith }
