use Rattle.std.proofs.Common.{Ok, subst, sym}
use Rattle.chisel_source.proofs.Parts.{own_valid}
use Rattle.chisel_run.specs.Answer.{IsInput, asked}
use Rattle.chisel_words.specs.Asked.{to_run}
use Rattle.chisel_top.specs.Findings.{Running}
use Rattle.chisel_top.specs.Outcomes.{Final}
use Rattle.chisel_top.proofs.Reaching.{run_answers, run_input, starts_stop}
use Rattle.chisel_top.proofs.commands.simulate_inputs.Goals as goal

pub starts-requires : goal.starts-requires
starts-requires g c = own_valid c.args.ready.now c.requires.ready

pub returns-in-Err-clause-reaches : goal.returns-in-Err-clause-reaches
returns-in-Err-clause-reaches g c =
    starts_stop (g.F.Shelf.held c.args.shelf.now) (g.F.Shelf.log c.args.shelf.now) (g.F.Shelf.log c.starts.new.shelf) (to_run c.args.words) c.args.ready.now c.in-Err.fault c.in-Err.ensures.works

pub ran-requires : goal.ran-requires
ran-requires g c =
    subst (λ ss. IsInput (asked c.args.ready.now c.args.words.trials ss)) (sym c.as_slice.ensures)
    (run_input c.args.ready.now c.args.words.trials c.in-Ok.starts c.requires.ready c.requires.closed c.requires.unbarred c.in-Ok.ensures.starts c.in-Ok.ensures.count)

pub returns-clause-reaches : goal.returns-clause-reaches
returns-clause-reaches g c =
    run_answers (g.F.Shelf.held c.args.shelf.now) (g.F.Shelf.log c.args.shelf.now) (g.F.Shelf.log c.starts.new.shelf) (to_run c.args.words) c.args.ready.now c.in-Ok.starts c.ran.result c.in-Ok.ensures.works
    (subst (λ ss. Final (Ok (Running (asked c.args.ready.now c.args.words.trials ss))) c.ran.result) c.as_slice.ensures c.ran.ensures)
