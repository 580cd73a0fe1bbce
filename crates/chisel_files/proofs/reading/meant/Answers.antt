use Rattle.rely_tree.specs.Shape.{unit_shape}
use Rattle.chisel_files.proofs.Steps.{hardware_stops, meaning_ends, meant_done, source_ends}
use Rattle.chisel_files.proofs.reading.meant.Goals as goal

pub returns-in-Err-clause-works : goal.returns-in-Err-clause-works
returns-in-Err-clause-works g c =
    source_ends (g.F.Shelf.held c.args.shelf.now) (g.F.Shelf.log c.args.shelf.now) (g.F.Shelf.log c.args.shelf.now) c.args.text.now c.args.hardware.now c.args.function.now c.in-Err.fault
    _ _ c.in-Err.ensures.err c.source_refusal.ensures c.fault_on.ensures

pub returns-in-Err-fetch-clause-works : goal.returns-in-Err-fetch-clause-works
returns-in-Err-fetch-clause-works g c =
    hardware_stops (g.F.Shelf.held c.args.shelf.now) (g.F.Shelf.log c.args.shelf.now) (g.F.Shelf.log c.fetch.new.shelf) c.args.text.now c.args.hardware.now c.args.function.now (unit_shape c.in-Ok.unit)
    c.in-Ok.ensures.ok c.in-Err-fetch.fault c.in-Err-fetch.ensures.works

pub returns-in-Ok-meaning-clause-works : goal.returns-in-Ok-meaning-clause-works
returns-in-Ok-meaning-clause-works g c =
    meant_done (g.F.Shelf.held c.args.shelf.now) (g.F.Shelf.log c.args.shelf.now) (g.F.Shelf.log c.fetch.new.shelf) c.args.text.now c.args.hardware.now c.args.function.now (unit_shape c.in-Ok.unit)
    c.in-Ok.ensures.ok c.in-Ok-fetch.bytes c.as_slice.result.now c.in-Ok-meaning.meant c.in-Ok-fetch.ensures.works c.as_slice.ensures c.in-Ok-meaning.ensures.ok

pub returns-clause-works : goal.returns-clause-works
returns-clause-works g c =
    meaning_ends (g.F.Shelf.held c.args.shelf.now) (g.F.Shelf.log c.args.shelf.now) (g.F.Shelf.log c.fetch.new.shelf) c.args.text.now c.args.hardware.now c.args.function.now (unit_shape c.in-Ok.unit)
    c.in-Ok.ensures.ok c.in-Ok-fetch.bytes c.as_slice.result.now c.in-Err-meaning.fault _ _ c.in-Ok-fetch.ensures.works c.as_slice.ensures c.in-Err-meaning.ensures.err
    c.meaning_refusal.ensures c.fault_on-in-Err-meaning.ensures
