use Rattle.std.proofs.Common.{ap, sym, ◌∙◌}
use Rattle.std.specs.Prelude.{Some, option_map}
use Rattle.chisel_words.specs.Asked.{asked_by}
use Rattle.chisel_words.specs.Words.{form}
use Rattle.chisel_top.proofs.Reaching.{limits_of, none_reaches, words_reach}
use Rattle.chisel_top.proofs.program.outcome.Goals as goal

pub returns-in-None-clause-reaches : goal.returns-in-None-clause-reaches
returns-in-None-clause-reaches g c =
    none_reaches (g.F.Shelf.held c.args.shelf.now) (g.F.Shelf.log c.args.shelf.now) (form c.args.words.now) (sym (ap (option_map asked_by) c.in-None.is) ∙ c.read.ensures.form)

pub optimise-requires : goal.optimise-requires
optimise-requires g c = record { nodes = (limits_of c.read.result (form c.args.words.now) _ c.read.ensures.form (c.in-Some-Optimise.is ∙ ap Some c.in-Some-Optimise.field-0-is) c.read.ensures.limits).1 }

pub returns-in-Some-Verify-clause-reaches : goal.returns-in-Some-Verify-clause-reaches
returns-in-Some-Verify-clause-reaches g c =
    words_reach c.read.result (form c.args.words.now) _ (g.F.Shelf.held c.args.shelf.now) (g.F.Shelf.log c.args.shelf.now) (g.F.Shelf.log c.verify.new.shelf) c.verify.result c.read.ensures.form
    (c.in-Some-Verify.is ∙ ap Some c.in-Some-Verify.field-0-is) c.verify.ensures.reaches

pub returns-in-Some-Optimise-clause-reaches : goal.returns-in-Some-Optimise-clause-reaches
returns-in-Some-Optimise-clause-reaches g c =
    words_reach c.read.result (form c.args.words.now) _ (g.F.Shelf.held c.args.shelf.now) (g.F.Shelf.log c.args.shelf.now) (g.F.Shelf.log c.optimise.new.shelf) c.optimise.result c.read.ensures.form
    (c.in-Some-Optimise.is ∙ ap Some c.in-Some-Optimise.field-0-is) c.optimise.ensures.reaches

pub returns-in-Some-Check-clause-reaches : goal.returns-in-Some-Check-clause-reaches
returns-in-Some-Check-clause-reaches g c =
    words_reach c.read.result (form c.args.words.now) _ (g.F.Shelf.held c.args.shelf.now) (g.F.Shelf.log c.args.shelf.now) (g.F.Shelf.log c.certify.new.shelf) c.certify.result c.read.ensures.form
    (c.in-Some-Check.is ∙ ap Some c.in-Some-Check.field-0-is) c.certify.ensures.reaches

pub returns-in-Some-Rewrite-clause-reaches : goal.returns-in-Some-Rewrite-clause-reaches
returns-in-Some-Rewrite-clause-reaches g c =
    words_reach c.read.result (form c.args.words.now) _ (g.F.Shelf.held c.args.shelf.now) (g.F.Shelf.log c.args.shelf.now) (g.F.Shelf.log c.certify-in-Some-Rewrite.new.shelf) c.certify-in-Some-Rewrite.result c.read.ensures.form
    (c.in-Some-Rewrite.is ∙ ap Some c.in-Some-Rewrite.field-0-is) c.certify-in-Some-Rewrite.ensures.reaches

pub returns-in-Some-Migrate-clause-reaches : goal.returns-in-Some-Migrate-clause-reaches
returns-in-Some-Migrate-clause-reaches g c =
    words_reach c.read.result (form c.args.words.now) _ (g.F.Shelf.held c.args.shelf.now) (g.F.Shelf.log c.args.shelf.now) (g.F.Shelf.log c.certify-in-Some-Migrate.new.shelf) c.certify-in-Some-Migrate.result c.read.ensures.form
    (c.in-Some-Migrate.is ∙ ap Some c.in-Some-Migrate.field-0-is) c.certify-in-Some-Migrate.ensures.reaches

pub returns-in-Some-Run-clause-reaches : goal.returns-in-Some-Run-clause-reaches
returns-in-Some-Run-clause-reaches g c =
    words_reach c.read.result (form c.args.words.now) _ (g.F.Shelf.held c.args.shelf.now) (g.F.Shelf.log c.args.shelf.now) (g.F.Shelf.log c.simulate.new.shelf) c.simulate.result c.read.ensures.form
    (c.in-Some-Run.is ∙ ap Some c.in-Some-Run.field-0-is) c.simulate.ensures.reaches

pub returns-in-Some-Make-clause-reaches : goal.returns-in-Some-Make-clause-reaches
returns-in-Some-Make-clause-reaches g c =
    let held = g.F.Shelf.held c.args.shelf.now in
    let log = g.F.Shelf.log c.args.shelf.now in
    words_reach c.read.result (form c.args.words.now) _ held log log c.measure.result c.read.ensures.form (c.in-Some-Make.is ∙ ap Some c.in-Some-Make.field-0-is) (c.measure.ensures held log)

pub returns-in-Some-Version-clause-reaches : goal.returns-in-Some-Version-clause-reaches
returns-in-Some-Version-clause-reaches g c =
    let held = g.F.Shelf.held c.args.shelf.now in
    let log = g.F.Shelf.log c.args.shelf.now in
    words_reach c.read.result (form c.args.words.now) _ held log log c.introduce.result c.read.ensures.form (c.in-Some-Version.is ∙ ap Some c.in-Some-Version.field-0-is) (c.introduce.ensures held log)
