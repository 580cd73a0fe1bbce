use Rattle.std.proofs.Common.{arith, sym, ◌∙◌}
use Rattle.chisel_table.specs.Lagrangian.{weight}
use Rattle.chisel_table.proofs.Sums.{least_one, least_more}
use Rattle.chisel_table.proofs.lagrangian.least_weight.Goals as goal
use Rattle.chisel_table.proofs.lagrangian.least_weight.Goals.{then-other-least, else-other-least}

pub loop-option-init : goal.loop-option-init
loop-option-init c = record {
  value = c.weight-least.ensures.value ∙ sym (least_one (weight c.args.t.now c.args.scale c.args.l.now c.args.decision));
  bound = c.weight-least.ensures.bound;
}

pub loop-option-preserved : goal.loop-option-preserved
loop-option-preserved c =
    let m = least_more c.loop-option.option (weight c.args.t.now c.args.scale c.args.l.now c.args.decision) (omega arith) in
    let v = c.weight-other.ensures.value in
    let u = c.loop-option.invariant.value in
    record {
      value = elim c.if-other-least.branch [ then-other-least w ↦ omega (arith, m, v, u) | else-other-least w ↦ omega (arith, m, v, u) ];
      bound = elim c.if-other-least.branch [ then-other-least w ↦ omega arith | else-other-least w ↦ omega arith ];
    }
