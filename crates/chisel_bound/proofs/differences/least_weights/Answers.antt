use Rattle.std.proofs.Common.{arith, sym}
use Rattle.chisel_table.proofs.Sums.{sum_none, sum_more}
use Rattle.chisel_bound.specs.Weights.{least_on}
use Rattle.chisel_bound.proofs.Nothing.{least_weighed}
use Rattle.chisel_bound.proofs.differences.least_weights.Goals as goal

pub loop-d-init : goal.loop-d-init
loop-d-init c = record { value = sym (sum_none _); bound = omega arith }

pub loop-d-preserved : goal.loop-d-preserved
loop-d-preserved c =
    let t = c.args.t.now in
    let d = c.loop-d.d in
    let m = sum_more d (least_on t c.args.scale c.args.grid.now) in
    let w = c.weight-sum.ensures in
    let e = least_weighed t c.args.scale c.args.grid.now d c.energies_of-energies.result.now c.least_option-least.result c.energies_of-energies.ensures c.least_option-least.ensures in
    record {
      value = omega (arith, m, w.value, e, c.loop-d.invariant.value);
      bound = omega (arith, w.bound, c.loop-d.invariant.bound);
    }
