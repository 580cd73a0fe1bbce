use Rattle.chisel_run.proofs.Sampling.{agreed_more, counted_no, counted_yes}
use Rattle.chisel_run.proofs.course.Course.agreeing.Goals as goal
use Rattle.chisel_run.proofs.course.Course.agreeing.Goals.{then-agrees, else-agrees}

pub loop-preserved : goal.loop-preserved
loop-preserved c =
    agreed_more c.args.start.now _ c.args.self.now c.loop.self c.loop.counter c.loop.agreeing c.loop.invariant c.trial.new.self c.in-Ok.ended c.if-agrees.agreeing
    c.in-Ok.ensures.trial c.in-Ok.ensures.took
    (elim c.if-agrees.branch [
      | then-agrees w ↦ counted_yes c.loop.agreeing c.if-agrees.agreeing _ c.agrees.result c.agrees.ensures w.if-agrees.true w.agreeing-is
      | else-agrees w ↦ counted_no c.loop.agreeing c.if-agrees.agreeing _ c.agrees.result c.agrees.ensures w.if-agrees.false w.agreeing-is
    ])
