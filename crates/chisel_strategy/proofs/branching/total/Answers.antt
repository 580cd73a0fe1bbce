use Rattle.std.proofs.Common.{arith, sym}
use Rattle.std.specs.Prelude.{slice_index}
use Rattle.chisel_table.proofs.Sums.{sum_none, sum_more}
use Rattle.chisel_strategy.proofs.branching.total.Goals as goal

pub loop-o-init : goal.loop-o-init
loop-o-init c = record { value = sym (sum_none _); bound = omega arith }

pub loop-o-preserved : goal.loop-o-preserved
loop-o-preserved c =
    let m = sum_more c.loop-o.o (slice_index c.args.debits.now) in
    record {
      value = omega (arith, m, c.loop-o.invariant.value);
      bound = omega (arith, c.loop-o.invariant.bound);
    }
