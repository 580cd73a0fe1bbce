use Rattle.std.proofs.Common.{rules, length, refl, sym, subst, ◌∙◌, arith}
use Rattle.std.proofs.lemmas.List.{take_all}
use Rattle.std.proofs.lemmas.Option.{slice_get_read}
use Rattle.rely_kernel.specs.Machine.{argument_items}
use Rattle.rely_kernel.specs.Text.{exprs_of}
use Rattle.rely_kernel.specs.Running.{pushed}
use Rattle.rely_machine.specs.Going.{Runs}
use Rattle.rely_machine.proofs.Listing.{arg_next, arg_stops, fit_at, exprs_long}
use Rattle.rely_machine.proofs.Reading.{steps_from}
use Rattle.rely_machine.proofs.Walking.{nothing}
use Rattle.rely_machine.proofs.walk.values_of.Goals as goal

pub loop-e-init : goal.loop-e-init
loop-e-init c = rw c.clear.ensures.items (nothing c.args.r.now (λ st. st) c.args.held.now c.args.tally.now c.requires.running, refl, tt)

pub value_of-requires-clause-running : goal.value_of-requires-clause-running
value_of-requires-clause-running c = c.loop-e.invariant.0.running

pub value_of-requires-clause-fits : goal.value_of-requires-clause-fits
value_of-requires-clause-fits c = fit_at c.args.r.now.kernel.now c.args.es.now c.loop-e.e-index c.e-item.result (slice_get_read c.args.es.now (length c.args.es.now) c.loop-e.e-index c.e-item.result refl c.loop-e-test.true c.e-item.is) c.requires.fits

pub returns-in_err-value_of-clause-exceeds : goal.returns-in_err-value_of-clause-exceeds
returns-in_err-value_of-clause-exceeds c = λ is. arg_stops c.args.r.now c.args.held.now c.args.tally.now c.loop-e.tally c.args.es.now c.loop-e.e-index c.e-item.result (slice_get_read c.args.es.now (length c.args.es.now) c.loop-e.e-index c.e-item.result refl c.loop-e-test.true c.e-item.is) c.loop-e.values.items c.loop-e.invariant.0 (c.value_of.ensures.exceeds (steps_from c.value_of.result c.from_residual.result c.in_err-value_of.field-0.0 c.from_residual.ensures.1 c.in_err-value_of.was is))

pub loop-e-preserved : goal.loop-e-preserved
loop-e-preserved c =
    arg_next c.args.r.now c.args.held.now c.args.tally.now c.loop-e.tally c.args.es.now c.loop-e.e-index c.e-item.result (slice_get_read c.args.es.now (length c.args.es.now) c.loop-e.e-index c.e-item.result refl c.loop-e-test.true c.e-item.is) c.loop-e.values.items c.loop-e.invariant.0 c.in_ok-value_of.field-0 c.in_ok-push.ensures.items (search rules) c.in_ok-value_of.ensures.runs
    c.loop-e.invariant.1 c.loop-e.invariant.2 (search rules)

pub returns-clause-numbers : goal.returns-clause-numbers
returns-clause-numbers c = (c.loop-e.invariant.1 ∙ omega (arith, c.loop-e-test.false, c.loop-e.auto.e-index-end) ∙ sym (exprs_long c.args.es.now), c.loop-e.invariant.2)

pub returns-clause-runs : goal.returns-clause-runs
returns-clause-runs c = subst (λ es. Runs c.args.r.now (argument_items (exprs_of es)) (λ st. st) (pushed c.loop-e.values.items) c.args.held.now c.args.tally.now c.args.held.now c.loop-e.tally)
    (take_all c.loop-e.e-index c.args.es.now c.loop-e-test.false) c.loop-e.invariant.0
