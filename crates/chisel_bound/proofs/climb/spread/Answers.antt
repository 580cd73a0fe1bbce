use Rattle.std.proofs.Common.{arith, sym}
use Rattle.std.specs.Prelude.{slice_index}
use Rattle.chisel_table.proofs.Sums.{least_one, least_more}
use Rattle.chisel_bound.proofs.Ascents.{greatest_one, greatest_more}
use Rattle.chisel_bound.proofs.climb.spread.Goals as goal

pub loop-o-init : goal.loop-o-init
loop-o-init c = record {
  least = sym (least_one (slice_index c.args.energies.now));
  greatest = sym (greatest_one (slice_index c.args.energies.now));
  order = omega arith;
}

pub loop-o-preserved : goal.loop-o-preserved
loop-o-preserved c =
    let i = c.loop-o.invariant in
    record {
      least = omega (arith, i.least, c.min-least.ensures, least_more c.loop-o.o (slice_index c.args.energies.now) (omega arith));
      greatest = omega (arith, i.greatest, c.max-greatest.ensures, greatest_more c.loop-o.o (slice_index c.args.energies.now));
      order = omega (arith, i.order, c.min-least.ensures, c.max-greatest.ensures);
    }
