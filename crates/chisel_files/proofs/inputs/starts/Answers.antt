use Rattle.chisel_files.proofs.Steps.{inputs_stop, starts_done, starts_end}
use Rattle.chisel_files.proofs.inputs.starts.Goals as goal

pub returns-in-Err-clause-works : goal.returns-in-Err-clause-works
returns-in-Err-clause-works g c =
    inputs_stop (g.F.Shelf.held c.args.shelf.now) (g.F.Shelf.log c.args.shelf.now) (g.F.Shelf.log c.fetch.new.shelf) c.args.k.now c.args.inputs.now c.in-Err.fault c.in-Err.ensures.works

pub returns-in-Ok-read-clause-works : goal.returns-in-Ok-read-clause-works
returns-in-Ok-read-clause-works g c =
    starts_done (g.F.Shelf.held c.args.shelf.now) (g.F.Shelf.log c.args.shelf.now) (g.F.Shelf.log c.fetch.new.shelf) c.args.k.now c.args.inputs.now c.in-Ok.bytes c.as_slice.result.now
    c.in-Ok-read.starts c.in-Ok.ensures.works c.as_slice.ensures c.in-Ok-read.ensures.ok

pub returns-clause-works : goal.returns-clause-works
returns-clause-works g c =
    starts_end (g.F.Shelf.held c.args.shelf.now) (g.F.Shelf.log c.args.shelf.now) (g.F.Shelf.log c.fetch.new.shelf) c.args.k.now c.args.inputs.now c.in-Ok.bytes c.as_slice.result.now
    c.in-Err-read.fault _ _ c.in-Ok.ensures.works c.as_slice.ensures c.in-Err-read.ensures.err c.input_refusal.ensures c.fault_on.ensures
