use Rattle.std.proofs.Common.{ap, ◌∙◌}
use Rattle.chisel_run.specs.Courses.{Stage, own_setup}
use Rattle.chisel_run.proofs.Runnable.{has_trials}
use Rattle.chisel_run.proofs.course.Course.trial.Goals as goal

pub trial-requires-clause-setup : goal.trial-requires-clause-setup
trial-requires-clause-setup c =
    has_trials c.args.self.now.ready c.self.inside.simulator c.requires.ready (c.self.invariant ∙ ap (λ (s : Stage). own_setup s.ready) c.self.view_is) c.requires.calls
