use Rattle.std.proofs.Common.{refl, sym, ◌∙◌}
use Rattle.chisel_words.specs.Asked.{to_run}
use Rattle.chisel_top.proofs.Reaching.{bar_passes, bar_stops}
use Rattle.chisel_top.proofs.commands.simulate_ready.Goals as goal

pub returns-in-Some-clause-reaches : goal.returns-in-Some-clause-reaches
returns-in-Some-clause-reaches g c =
    bar_stops (g.F.Shelf.held c.args.shelf.now) (g.F.Shelf.log c.args.shelf.now) _ (to_run c.args.words) c.args.ready.now c.in-Some.place refl (sym c.barred_call.ensures ∙ c.in-Some.is)

pub returns-in-None-clause-reaches : goal.returns-in-None-clause-reaches
returns-in-None-clause-reaches g c =
    bar_passes (g.F.Shelf.held c.args.shelf.now) (g.F.Shelf.log c.args.shelf.now) (g.F.Shelf.log c.simulate_inputs.new.shelf) (to_run c.args.words) c.args.ready.now c.simulate_inputs.result
    (sym c.barred_call.ensures ∙ c.in-None.is) c.simulate_inputs.ensures.reaches
