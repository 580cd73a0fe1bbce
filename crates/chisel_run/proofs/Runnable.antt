-- The own kinds and memories of a function that leaves no place open.
use Rattle.std.proofs.Common.{◌≡◌, [], sym, subst}
use Rattle.rely_kernel.specs.Setting.{IsClosed}
use Rattle.rely_kernel.proofs.OwnFits.{own_fits}
use Rattle.rely_faults.specs.Setup.{HasTrials, Setup}
use Rattle.chisel_source.proofs.Parts.{own_closed, own_on, own_valid}
use Rattle.chisel_source.specs.declared.ready.Ready.{Ready}
use Rattle.chisel_run.specs.Answer.{IsRunnable}
use Rattle.chisel_run.specs.Courses.{own_setup}

pub closed_of : (r : Ready) → IsRunnable r → IsClosed r.linked.kernel
closed_of r is = own_closed r.linked is.closed

-- they fit, and a function that calls nothing has trials under them
pub has_trials : (r : Ready) (s : Setup) → IsRunnable r → s ≡ own_setup r → r.linked.kernel.calls ≡ [] → HasTrials s
has_trials r s is e calls = subst HasTrials (sym e) (record {
  valid = own_valid r is.ready;
  no_calls = calls;
  hardware = is.ready.hardware;
  fits = own_fits r.hardware r.linked.kernel (own_on r is.ready) (closed_of r is);
})
