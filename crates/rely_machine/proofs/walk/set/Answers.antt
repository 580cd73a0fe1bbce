use Rattle.std.proofs.Common.{rules}
use Rattle.rely_kernel.specs.Text.{expr_of}
use Rattle.rely_machine.proofs.Acting.{set_label, set_goes, set_stops_first, set_stops}
use Rattle.rely_machine.proofs.Reading.{steps_from, scalar_long}
use Rattle.rely_machine.proofs.walk.set.Goals as goal

pub returns-in_err-z-clause-exceeds : goal.returns-in_err-z-clause-exceeds
returns-in_err-z-clause-exceeds c = λ is. set_stops_first c.args.r.now c.args.held.now c.args.tally.now c.args.v (expr_of c.args.e.now) c.requires.fits (c.value_of.ensures.exceeds (steps_from c.value_of.result c.from_residual.result c.in_err-z.field-0.0 c.from_residual.ensures.1 c.in_err-z.was is))

pub take-requires : goal.take-requires
take-requires c = set_label c.args.r.now c.args.held.now c.args.tally.now c.args.v (expr_of c.args.e.now) c.requires.fits c.value_of.new.tally c.at.result c.write_label.result c.in_ok-z.ensures.runs.running c.at.ensures c.write_label.ensures

pub returns-in_err-take-clause-exceeds : goal.returns-in_err-take-clause-exceeds
returns-in_err-take-clause-exceeds c = λ is. set_stops c.args.r.now c.args.held.now c.args.tally.now c.args.v (expr_of c.args.e.now) c.requires.fits c.in_ok-z.z c.in_ok-z.ensures.runs (c.take.ensures.steps (steps_from c.take.result c.from_residual-in_err-take.result c.in_err-take.field-0.0 c.from_residual-in_err-take.ensures.1 c.in_err-take.was is))

pub write-requires : goal.write-requires
write-requires c = scalar_long c.args.r.now.kernel.now c.args.held.now c.args.v c.requires.running.shape c.requires.fits.0

pub returns-clause-runs : goal.returns-clause-runs
returns-clause-runs c = set_goes c.args.r.now c.args.held.now c.args.tally.now c.args.v (expr_of c.args.e.now) c.requires.fits c.in_ok-z.z c.at.result c.write_label.result c.in_ok-z.ensures.runs c.write.ensures (search rules) (search rules) c.in_ok-take.ensures.ok c.at.ensures c.write_label.ensures
