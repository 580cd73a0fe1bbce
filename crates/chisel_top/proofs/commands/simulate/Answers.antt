use Rattle.chisel_words.specs.Asked.{to_run}
use Rattle.chisel_files.specs.Front.{closed_work}
use Rattle.chisel_top.specs.Findings.{running}
use Rattle.chisel_top.proofs.Reaching.{reaches_then, run_stops}
use Rattle.chisel_top.proofs.commands.simulate.Goals as goal

pub returns-in-Err-clause-reaches : goal.returns-in-Err-clause-reaches
returns-in-Err-clause-reaches g c =
    run_stops (g.F.Shelf.held c.args.shelf.now) (g.F.Shelf.log c.args.shelf.now) (g.F.Shelf.log c.closed_ready.new.shelf) (to_run c.args.words) c.in-Err.fault c.in-Err.ensures.works

pub returns-in-Ok-clause-reaches : goal.returns-in-Ok-clause-reaches
returns-in-Ok-clause-reaches g c =
    let w = to_run c.args.words in
    reaches_then (g.F.Shelf.held c.args.shelf.now) (g.F.Shelf.held c.closed_ready.new.shelf) (g.F.Shelf.log c.args.shelf.now) (g.F.Shelf.log c.closed_ready.new.shelf) (g.F.Shelf.log c.simulate_ready.new.shelf)
    (closed_work w.source w.hardware w.function) (running w) c.in-Ok.ready c.simulate_ready.result c.closed_ready.ensures.held c.in-Ok.ensures.works c.simulate_ready.ensures.reaches
