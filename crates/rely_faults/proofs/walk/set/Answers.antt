use Rattle.std.proofs.Common.{rules}
use Rattle.rely_kernel.specs.Text.{expr_of}
use Rattle.rely_kernel.proofs.Shape.{scalar_below}
use Rattle.rely_machine.proofs.Reading.{scalar_long}
use Rattle.rely_faults.proofs.Acting.{set_goes, set_stops_first, set_stops}
use Rattle.rely_faults.proofs.Walking.{on_err}
use Rattle.rely_faults.proofs.walk.set.Goals as goal

pub returns-in_err-right-clause-exceeds : goal.returns-in_err-right-clause-exceeds
returns-in_err-right-clause-exceeds c = on_err c.from_residual.result (set_stops_first c.args.r.now c.args.held.now c.args.tally.now c.args.words.now c.args.v (expr_of c.args.e.now) c.requires.fits c.in_err-right.ensures.exceeds)

pub write_rate-requires-clause-known : goal.write_rate-requires-clause-known
write_rate-requires-clause-known c = scalar_below c.args.r.now.kernel.now c.args.v c.requires.fits.0

pub returns-in_err-z-clause-exceeds : goal.returns-in_err-z-clause-exceeds
returns-in_err-z-clause-exceeds c = on_err c.from_residual-in_err-z.result (set_stops c.args.r.now c.args.held.now c.args.tally.now c.args.words.now c.args.v (expr_of c.args.e.now) c.requires.fits c.in_ok-right.right c.in_ok-right.ensures.runs c.in_err-z.ensures.full c.in_err-z.ensures.untaken)

pub write-requires : goal.write-requires
write-requires c = scalar_long c.args.r.now.kernel.now c.args.held.now c.args.v c.requires.running.shape c.requires.fits.0

pub returns-clause-runs : goal.returns-clause-runs
returns-clause-runs c = set_goes c.args.r.now c.args.held.now c.args.tally.now c.args.words.now c.args.v (expr_of c.args.e.now) c.requires.fits c.in_ok-right.right c.in_ok-z.z c.in_ok-right.ensures.runs c.write_rate.ensures (search rules) c.in_ok-z.ensures.ok c.write.ensures (search rules) (search rules)
