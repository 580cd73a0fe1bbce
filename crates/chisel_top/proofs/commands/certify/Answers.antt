use Rattle.chisel_words.specs.Asked.{to_certified}
use Rattle.chisel_files.specs.Choosing.{problem_work}
use Rattle.chisel_top.specs.Findings.{certificate_of}
use Rattle.chisel_top.proofs.Reaching.{problem_stops, reaches_then}
use Rattle.chisel_top.proofs.commands.certify.Goals as goal

pub returns-in-Err-clause-reaches : goal.returns-in-Err-clause-reaches
returns-in-Err-clause-reaches g c =
    problem_stops (g.F.Shelf.held c.args.shelf.now) (g.F.Shelf.log c.args.shelf.now) (g.F.Shelf.log c.read_problem.new.shelf) c.args.asked (to_certified c.args.words) c.in-Err.fault c.in-Err.ensures.works

pub returns-in-Ok-clause-reaches : goal.returns-in-Ok-clause-reaches
returns-in-Ok-clause-reaches g c =
    let w = to_certified c.args.words in
    reaches_then (g.F.Shelf.held c.args.shelf.now) (g.F.Shelf.held c.read_problem.new.shelf) (g.F.Shelf.log c.args.shelf.now) (g.F.Shelf.log c.read_problem.new.shelf) (g.F.Shelf.log c.certified.new.shelf)
    (problem_work w.source w.hardware w.inputs w.function) (certificate_of c.args.asked w) c.in-Ok.problem c.certified.result c.read_problem.ensures.held c.in-Ok.ensures.works c.certified.ensures.reaches
