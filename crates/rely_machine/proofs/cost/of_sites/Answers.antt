use Rattle.std.proofs.Common.{arith}
use Rattle.std.specs.Prelude.{slice_index}
use Rattle.rely_machine.proofs.EnergyCaps.{from_step, from_end}
use Rattle.rely_machine.proofs.EnergyOwn.{own_sites}
use Rattle.rely_machine.proofs.cost.of_sites.Goals as goal

pub loop-i-init : goal.loop-i-init
loop-i-init c =
    record {
      fits = omega arith;
      rest = rw c.as_slice-sites.ensures (omega (arith, own_sites c.args.h.now c.args.k.now (slice_index c.args.uses.now)));
    }

pub loop-i-preserved : goal.loop-i-preserved
loop-i-preserved c =
    record {
      fits = omega arith;
      rest = rw (c.saturating_add-total.ensures, c.saturating_mul.ensures, c.number_at.ensures, c.site_energy.ensures)
          (from_step _ c.as_slice-sites.result.now c.loop-i.i _ c.loop-i.total _ c.loop-i-test.true c.loop-i.invariant.rest);
    }

pub returns : goal.returns
returns c = from_end _ c.as_slice-sites.result.now c.loop-i.i c.loop-i.total _ c.loop-i-test.false c.loop-i.invariant.fits c.loop-i.invariant.rest
