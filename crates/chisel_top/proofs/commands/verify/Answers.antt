use Rattle.chisel_words.specs.Asked.{to_verify}
use Rattle.chisel_top.proofs.Reaching.{verify_answers, verify_stops}
use Rattle.chisel_top.proofs.commands.verify.Goals as goal

pub returns-in-Err-clause-reaches : goal.returns-in-Err-clause-reaches
returns-in-Err-clause-reaches g c =
    verify_stops (g.F.Shelf.held c.args.shelf.now) (g.F.Shelf.log c.args.shelf.now) (g.F.Shelf.log c.closed_ready.new.shelf) (to_verify c.args.words) c.in-Err.fault c.in-Err.ensures.works

pub returns-in-Ok-clause-reaches : goal.returns-in-Ok-clause-reaches
returns-in-Ok-clause-reaches g c =
    verify_answers (g.F.Shelf.held c.args.shelf.now) (g.F.Shelf.log c.args.shelf.now) (g.F.Shelf.log c.closed_ready.new.shelf) (to_verify c.args.words) c.in-Ok.ready c.judged.result c.in-Ok.ensures.works
    c.judged.ensures
