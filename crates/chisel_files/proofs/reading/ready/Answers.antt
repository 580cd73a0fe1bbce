use Rattle.chisel_files.proofs.Steps.{meant_stops, ready_done, source_stops}
use Rattle.chisel_files.proofs.reading.ready.Goals as goal

pub returns-in-Err-clause-works : goal.returns-in-Err-clause-works
returns-in-Err-clause-works g c =
    source_stops (g.F.Shelf.held c.args.shelf.now) c.args.source.now c.args.hardware.now c.args.function.now (g.F.Shelf.log c.args.shelf.now) (g.F.Shelf.log c.fetch.new.shelf)
    c.in-Err.fault c.in-Err.ensures.works

pub returns-in-Err-meant-clause-works : goal.returns-in-Err-meant-clause-works
returns-in-Err-meant-clause-works g c =
    meant_stops (g.F.Shelf.held c.args.shelf.now) c.args.source.now c.args.hardware.now c.args.function.now (g.F.Shelf.held c.fetch.new.shelf) (g.F.Shelf.log c.args.shelf.now)
    (g.F.Shelf.log c.fetch.new.shelf) (g.F.Shelf.log c.meant.new.shelf) c.in-Ok.text c.as_slice.result.now c.fetch.ensures.held c.in-Ok.ensures.works c.as_slice.ensures c.in-Err-meant.fault
    c.in-Err-meant.ensures.works

pub returns-clause-works : goal.returns-clause-works
returns-clause-works g c =
    ready_done (g.F.Shelf.held c.args.shelf.now) c.args.source.now c.args.hardware.now c.args.function.now (g.F.Shelf.held c.fetch.new.shelf) (g.F.Shelf.log c.args.shelf.now)
    (g.F.Shelf.log c.fetch.new.shelf) (g.F.Shelf.log c.meant.new.shelf) c.in-Ok.text c.as_slice.result.now c.fetch.ensures.held c.in-Ok.ensures.works c.as_slice.ensures c.in-Ok-meant.meant
    c.new.result c.in-Ok-meant.ensures.works c.new.ensures
