use Rattle.std.proofs.Common.{◌≡◌}
use Rattle.rely_machine.specs.Run.{ReachesLimit}
use Rattle.chisel_optimise.specs.Tables.{IsTooLong, too_long}
use Rattle.chisel_optimise.proofs.Halting.{halts_weaker}
use Rattle.chisel_optimise.proofs.Sampling.{one_sampled, too_long_together}
use Rattle.chisel_optimise.proofs.runs.outcomes.Goals as goal

pub returns-in-Err-clause-err : goal.returns-in-Err-clause-err
returns-in-Err-clause-err c =
    halts_weaker (λ a. ReachesLimit c.args.l.now c.start-item.result c.loop-start.left × (a ≡ too_long)) (IsTooLong c.args.l.now c.args.starts.now) c.in-Err.halt
    (λ a e. (
      too_long_together c.args.l.now c.args.starts.now c.loop-start.start-index c.start-item.result c.loop-start.outcomes.items c.loop-start.left c.requires.linked c.requires.starts c.loop-start-test.true
          c.start-item.is c.loop-start.invariant e.0,
      e.1,
    )) c.in-Err.ensures.err

pub loop-start-preserved : goal.loop-start-preserved
loop-start-preserved c =
    rw c.in_ok-push.ensures.items
    (one_sampled c.args.l.now c.args.starts.now c.loop-start.start-index c.start-item.result c.loop-start.outcomes.items c.loop-start.left c.in-Ok.outcome c.loop-start-test.true c.start-item.is
    c.loop-start.invariant c.in-Ok.ensures.outcome c.in-Ok.ensures.below)
