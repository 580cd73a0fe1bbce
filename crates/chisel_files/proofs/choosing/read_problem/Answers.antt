use Rattle.chisel_source.proofs.Parts.{own_valid}
use Rattle.chisel_files.proofs.Problems.{is_problem, open_stops, problem_read, starts_stop}
use Rattle.chisel_files.proofs.choosing.read_problem.Goals as goal

pub returns-in-Err-clause-works : goal.returns-in-Err-clause-works
returns-in-Err-clause-works g c =
    open_stops (g.F.Shelf.held c.args.shelf.now) c.args.names.source.now c.args.names.hardware.now c.args.names.inputs.now c.args.names.function.now (g.F.Shelf.log c.args.shelf.now) (g.F.Shelf.log c.open_ready.new.shelf)
    c.in-Err.fault c.in-Err.ensures.works

pub starts-requires : goal.starts-requires
starts-requires g c = own_valid c.in-Ok.ready c.in-Ok.ensures.valid

pub returns-in-Ok-starts-clause-works : goal.returns-in-Ok-starts-clause-works
returns-in-Ok-starts-clause-works g c =
    problem_read (g.F.Shelf.held c.args.shelf.now) c.args.names.source.now c.args.names.hardware.now c.args.names.inputs.now c.args.names.function.now (g.F.Shelf.held c.open_ready.new.shelf)
    (g.F.Shelf.log c.args.shelf.now) (g.F.Shelf.log c.open_ready.new.shelf) (g.F.Shelf.log c.starts.new.shelf) c.in-Ok.ready c.open_ready.ensures.held c.in-Ok.ensures.works c.in-Ok-starts.starts
    c.in-Ok-starts.ensures.works

pub returns-in-Ok-starts-clause-sound : goal.returns-in-Ok-starts-clause-sound
returns-in-Ok-starts-clause-sound g c =
    is_problem c.in-Ok.ready c.in-Ok-starts.starts c.in-Ok.ensures.valid c.in-Ok.ensures.is_open c.in-Ok-starts.ensures.starts c.in-Ok-starts.ensures.count

pub returns-clause-works : goal.returns-clause-works
returns-clause-works g c =
    starts_stop (g.F.Shelf.held c.args.shelf.now) c.args.names.source.now c.args.names.hardware.now c.args.names.inputs.now c.args.names.function.now (g.F.Shelf.held c.open_ready.new.shelf)
    (g.F.Shelf.log c.args.shelf.now) (g.F.Shelf.log c.open_ready.new.shelf) (g.F.Shelf.log c.starts.new.shelf) c.in-Ok.ready c.open_ready.ensures.held c.in-Ok.ensures.works c.in-Err-starts.fault
    c.in-Err-starts.ensures.works
