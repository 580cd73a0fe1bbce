use Rattle.std.proofs.Common.{rules}
use Rattle.rely_kernel.specs.Text.{expr_of}
use Rattle.rely_machine.proofs.Acting.{element_label, element_goes, element_stops_first, element_stops_then, element_stops}
use Rattle.rely_machine.proofs.Reading.{steps_from, array_there}
use Rattle.rely_machine.proofs.walk.set_element.Goals as goal

pub returns-in_err-i-clause-exceeds : goal.returns-in_err-i-clause-exceeds
returns-in_err-i-clause-exceeds c = λ is. element_stops_first c.args.r.now c.args.held.now c.args.tally.now c.args.a (expr_of c.args.index.now) (expr_of c.args.e.now) c.requires.fits (c.value_of.ensures.exceeds (steps_from c.value_of.result c.from_residual.result c.in_err-i.field-0.0 c.from_residual.ensures.1 c.in_err-i.was is))

pub returns-in_err-z-clause-exceeds : goal.returns-in_err-z-clause-exceeds
returns-in_err-z-clause-exceeds c = λ is. element_stops_then c.args.r.now c.args.held.now c.args.tally.now c.args.a (expr_of c.args.index.now) (expr_of c.args.e.now) c.requires.fits c.in_ok-i.i c.in_ok-i.ensures.runs (c.value_of-2.ensures.exceeds (steps_from c.value_of-2.result c.from_residual-in_err-z.result c.in_err-z.field-0.0 c.from_residual-in_err-z.ensures.1 c.in_err-z.was is))

pub take-requires : goal.take-requires
take-requires c = element_label c.args.r.now c.args.held.now c.args.tally.now c.args.a (expr_of c.args.index.now) (expr_of c.args.e.now) c.requires.fits c.value_of-2.new.tally c.at.result c.write_label.result c.in_ok-z.ensures.runs.running c.at.ensures c.write_label.ensures

pub returns-in_err-take-clause-exceeds : goal.returns-in_err-take-clause-exceeds
returns-in_err-take-clause-exceeds c = λ is. element_stops c.args.r.now c.args.held.now c.args.tally.now c.args.a (expr_of c.args.index.now) (expr_of c.args.e.now) c.requires.fits c.in_ok-i.i c.in_ok-z.z c.in_ok-i.ensures.runs c.in_ok-z.ensures.runs (c.take.ensures.steps (steps_from c.take.result c.from_residual-in_err-take.result c.in_err-take.field-0.0 c.from_residual-in_err-take.ensures.1 c.in_err-take.was is))

pub write_at-requires : goal.write_at-requires
write_at-requires c = array_there c.args.r.now.kernel.now c.args.held.now c.args.a c.requires.running.shape c.requires.fits.0

pub returns-clause-runs : goal.returns-clause-runs
returns-clause-runs c = element_goes c.args.r.now c.args.held.now c.args.tally.now c.args.a (expr_of c.args.index.now) (expr_of c.args.e.now) c.requires.fits c.in_ok-i.i c.in_ok-z.z c.at.result c.write_label.result c.in_ok-i.ensures.runs c.in_ok-z.ensures.runs c.write_at.ensures (search rules) (search rules) (search rules) (search rules) c.in_ok-take.ensures.ok c.at.ensures c.write_label.ensures
