use Rattle.std.proofs.Common.{arith}
use Rattle.std.specs.Prelude.{slice_index}
use Rattle.rely_machine.proofs.EnergyCaps.{capped_sum, from_step, from_end}
use Rattle.rely_machine.proofs.EnergyOwn.{own_vars}
use Rattle.rely_machine.proofs.cost.of_vars.Goals as goal

pub loop-v-init : goal.loop-v-init
loop-v-init c =
    record {
      fits = omega arith;
      rest = rw c.as_slice-vars.ensures (omega (arith, own_vars c.args.h.now c.args.k.now (slice_index c.args.uses.now)));
    }

pub loop-v-preserved : goal.loop-v-preserved
loop-v-preserved c =
    record {
      fits = omega arith;
      rest = rw (c.saturating_add-total.ensures, c.saturating_add.ensures, c.saturating_mul-read.ensures, c.saturating_mul-write.ensures, c.number_at.ensures, c.read_energy.ensures, c.number_at-in-loop-v.ensures, c.write_energy.ensures, c.as_slice-sites.ensures, capped_sum, c.index-vars-v.is)
          (from_step _ c.as_slice-vars.result.now c.loop-v.v c.index-vars-v.result c.loop-v.total _ c.loop-v-test.true c.loop-v.invariant.rest);
    }

pub returns : goal.returns
returns c = from_end _ c.as_slice-vars.result.now c.loop-v.v c.loop-v.total _ c.loop-v-test.false c.loop-v.invariant.fits c.loop-v.invariant.rest
