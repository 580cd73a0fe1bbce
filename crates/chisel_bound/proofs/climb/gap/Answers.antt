use Rattle.std.proofs.Common.{arith, sym}
use Rattle.std.specs.Prelude.{slice_index}
use Rattle.chisel_table.specs.Tables.{spent_at}
use Rattle.chisel_table.proofs.Sums.{sum_none, sum_more}
use Rattle.chisel_bound.proofs.climb.gap.Goals as goal

pub loop-d-init : goal.loop-d-init
loop-d-init c = record { value = sym (sum_none _); bound = omega arith }

pub loop-d-preserved : goal.loop-d-preserved
loop-d-preserved c =
    let m = sum_more c.loop-d.d (λ d. spent_at c.args.t.now c.args.row d (slice_index c.args.options.now d)) in
    let e = c.spent_at.ensures in
    let b = c.requires.table.debits c.args.row c.loop-d.d (slice_index c.args.options.now c.loop-d.d) c.requires.row (omega arith) (c.requires.options.in_range c.loop-d.d (omega arith)) in
    record {
      value = omega (arith, m, e, c.loop-d.invariant.value);
      bound = omega (arith, e, b, c.loop-d.invariant.bound);
    }
