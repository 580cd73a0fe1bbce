use Rattle.std.proofs.Common.{arith}
use Rattle.rely_machine.proofs.EnergyCaps.{by_step, by_end}
use Rattle.rely_machine.proofs.EnergyOwn.{own_hold}
use Rattle.rely_machine.proofs.cost.held.Goals as goal

pub loop-var-init : goal.loop-var-init
loop-var-init c =
    record {
      fits = omega arith;
      rest = rw c.as_slice-vars.ensures (omega (arith, own_hold c.args.h.now c.args.k.now));
    }

pub loop-var-preserved : goal.loop-var-preserved
loop-var-preserved c =
    let item = c.var-item.result in
    record {
      fits = omega arith;
      rest = rw (c.saturating_add-total.ensures, c.saturating_mul.ensures, c.size.ensures, c.hold.ensures, c.var-item.is)
          (by_step _ c.as_slice-vars.result.now c.loop-var.var-index item c.loop-var.total _ c.loop-var-test.true c.loop-var.invariant.rest);
    }

pub returns : goal.returns
returns c = by_end _ c.as_slice-vars.result.now c.loop-var.var-index c.loop-var.total _ c.loop-var-test.false c.loop-var.invariant.fits c.loop-var.invariant.rest
