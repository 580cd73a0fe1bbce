use Rattle.std.proofs.Common.{arith, sym}
use Rattle.std.specs.Prelude.{slice_index}
use Rattle.chisel_table.proofs.Sums.{least_one, least_more}
use Rattle.chisel_bound.proofs.columns.least.Goals as goal

pub loop-o-init : goal.loop-o-init
loop-o-init c = sym (least_one (slice_index c.args.debits.now))

pub loop-o-preserved : goal.loop-o-preserved
loop-o-preserved c = omega (arith, c.loop-o.invariant, c.min-least.ensures, least_more c.loop-o.o (slice_index c.args.debits.now) (omega arith))
