use Rattle.std.proofs.Common.{arith, sym}
use Rattle.chisel_table.specs.Tables.{spent_at}
use Rattle.chisel_table.specs.Lagrangian.{least_at}
use Rattle.chisel_table.proofs.Sums.{sum_none, sum_more}
use Rattle.chisel_table.proofs.lagrangian.row_excess.Goals as goal

pub loop-d-init : goal.loop-d-init
loop-d-init c = record { value = sym (sum_none _); bound = omega arith }

pub loop-d-preserved : goal.loop-d-preserved
loop-d-preserved c =
    let m = sum_more c.loop-d.d (least_at c.args.t.now (spent_at c.args.t.now c.args.row) c.args.p.now) in
    record {
      value = omega (arith, m, c.least_spent.ensures.value, c.loop-d.invariant.value);
      bound = omega (arith, c.least_spent.ensures.bound, c.loop-d.invariant.bound);
    }
