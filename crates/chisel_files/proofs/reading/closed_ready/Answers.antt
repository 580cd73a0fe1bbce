use Rattle.chisel_files.proofs.Steps.{marks_come, ready_stops}
use Rattle.chisel_files.proofs.reading.closed_ready.Goals as goal

pub returns-in-Ok-clause-works : goal.returns-in-Ok-clause-works
returns-in-Ok-clause-works g c =
    marks_come (g.F.Shelf.held c.args.shelf.now) c.args.source.now c.args.hardware.now c.args.function.now (g.F.Shelf.log c.args.shelf.now) (g.F.Shelf.log c.ready.new.shelf) c.in-Ok.ready
    c.closed.result c.in-Ok.ensures.works c.closed.ensures.comes

pub returns-in-Err-clause-works : goal.returns-in-Err-clause-works
returns-in-Err-clause-works g c =
    ready_stops (g.F.Shelf.held c.args.shelf.now) c.args.source.now c.args.hardware.now c.args.function.now (g.F.Shelf.log c.args.shelf.now) (g.F.Shelf.log c.ready.new.shelf) c.in-Err.fault
    c.in-Err.ensures.works
