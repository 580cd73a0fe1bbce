use Rattle.chisel_run.specs.Courses.{Agreed}
use Rattle.chisel_run.proofs.course.Course.agreeing.Given as goal

abbrev pub invariant-loop : goal.invariant-loop
invariant-loop l = Agreed l.fn.self.ready l.counter l.start l.outcome.store.result l.fn.self l.self l.agreeing
