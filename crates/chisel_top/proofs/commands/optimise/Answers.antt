use Rattle.chisel_words.specs.Asked.{to_optimise}
use Rattle.chisel_top.proofs.Reaching.{optimise_answers, optimise_stops}
use Rattle.chisel_top.proofs.commands.optimise.Goals as goal

pub returns-in-Err-clause-reaches : goal.returns-in-Err-clause-reaches
returns-in-Err-clause-reaches g c =
    optimise_stops (g.F.Shelf.held c.args.shelf.now) (g.F.Shelf.log c.args.shelf.now) (g.F.Shelf.log c.read_problem.new.shelf) (to_optimise c.args.words) c.in-Err.fault c.in-Err.ensures.works

pub returns-clause-reaches : goal.returns-clause-reaches
returns-clause-reaches g c =
    optimise_answers (g.F.Shelf.held c.args.shelf.now) (g.F.Shelf.log c.args.shelf.now) (g.F.Shelf.log c.read_problem.new.shelf) (to_optimise c.args.words) c.in-Ok.problem c.chosen.result c.in-Ok.ensures.works
    c.chosen.ensures.answered
