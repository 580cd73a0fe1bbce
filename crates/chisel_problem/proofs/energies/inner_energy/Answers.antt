use Rattle.std.proofs.Common.{◌≡◌, ◌∙◌, ap, arith}
use Rattle.rely_machine.specs.EnergySums.{capped}
use Rattle.rely_machine.proofs.EnergyCaps.{from_step}
use Rattle.chisel_problem.specs.Energies.{energies}
use Rattle.chisel_problem.specs.Places.{closed}
use Rattle.chisel_problem.specs.declared.uses.Whose.TheVariants.{Inner}
use Rattle.chisel_problem.proofs.Capped.{closed_capped}
use Rattle.chisel_problem.proofs.energies.inner_energy.Goals as goal

pub loop-f-preserved : goal.loop-f-preserved
loop-f-preserved c =
    let k = c.index-inner-f.result in
    let ps = energies c.args.h.now k c.args.runs.now (Inner c.loop-f.f) in
    let own : c.closed_energy.result ≡ capped (closed ps) =
    c.closed_energy.ensures ∙ (ap (λ qs. capped (closed qs)) (c.deref.ensures.value ∙ c.in_ok-places.ensures) ∙ closed_capped ps) in record {
      fits = omega (arith, c.saturating_add-total.ensures);
      rest = rw (c.saturating_add-total.ensures, own, c.index-inner-f.is)
          (from_step _ c.args.inner.now c.loop-f.f c.index-inner-f.result c.loop-f.total _ c.loop-f-test.true c.loop-f.invariant.rest);
    }
