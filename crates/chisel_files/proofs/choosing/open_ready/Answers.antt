use Rattle.chisel_files.proofs.Problems.{open_comes, ready_ends}
use Rattle.chisel_files.proofs.choosing.open_ready.Goals as goal

pub returns-in-Ok-clause-works : goal.returns-in-Ok-clause-works
returns-in-Ok-clause-works g c =
    open_comes (g.F.Shelf.held c.args.shelf.now) c.args.names.source.now c.args.names.hardware.now c.args.names.function.now (g.F.Shelf.log c.args.shelf.now) (g.F.Shelf.log c.ready.new.shelf) c.in-Ok.ready
    c.open.result c.in-Ok.ensures.works c.open.ensures.comes

pub returns-in-Err-clause-works : goal.returns-in-Err-clause-works
returns-in-Err-clause-works g c =
    ready_ends (g.F.Shelf.held c.args.shelf.now) c.args.names.source.now c.args.names.hardware.now c.args.names.function.now (g.F.Shelf.log c.args.shelf.now) (g.F.Shelf.log c.ready.new.shelf) c.in-Err.fault
    c.in-Err.ensures.works
