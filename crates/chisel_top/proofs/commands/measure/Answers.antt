use Rattle.chisel_words.specs.Asked.{to_make}
use Rattle.chisel_top.proofs.Reaching.{make_answers, make_stops}
use Rattle.chisel_top.proofs.commands.measure.Goals as goal

pub returns-in-Err : goal.returns-in-Err
returns-in-Err c held log = make_stops held log (to_make c.args.words) c.in-Err.fault c.in-Err.ensures.comes

pub returns : goal.returns
returns c held log = make_answers held log (to_make c.args.words) c.in-Ok.problem c.chosen.result c.in-Ok.ensures.comes c.chosen.ensures.answered
