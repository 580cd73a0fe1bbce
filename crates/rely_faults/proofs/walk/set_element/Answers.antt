use Rattle.std.proofs.Common.{rules}
use Rattle.rely_kernel.specs.Text.{expr_of}
use Rattle.rely_kernel.proofs.Shape.{array_below}
use Rattle.rely_machine.proofs.Reading.{array_there}
use Rattle.rely_faults.proofs.Acting.{element_goes, element_stops_first, element_stops_then, element_stops}
use Rattle.rely_faults.proofs.Walking.{on_err}
use Rattle.rely_faults.proofs.walk.set_element.Goals as goal

pub returns-in_err-i-clause-exceeds : goal.returns-in_err-i-clause-exceeds
returns-in_err-i-clause-exceeds c = on_err c.from_residual.result (element_stops_first c.args.r.now c.args.held.now c.args.tally.now c.args.words.now c.args.a (expr_of c.args.index.now) (expr_of c.args.e.now) c.requires.fits c.in_err-i.ensures.exceeds)

pub returns-in_err-right-clause-exceeds : goal.returns-in_err-right-clause-exceeds
returns-in_err-right-clause-exceeds c = on_err c.from_residual-in_err-right.result (element_stops_then c.args.r.now c.args.held.now c.args.tally.now c.args.words.now c.args.a (expr_of c.args.index.now) (expr_of c.args.e.now) c.requires.fits c.in_ok-i.i c.in_ok-i.ensures.runs c.in_err-right.ensures.exceeds)

pub write_rate-requires-clause-known : goal.write_rate-requires-clause-known
write_rate-requires-clause-known c = array_below c.args.r.now.kernel.now c.args.a c.requires.fits.0

pub returns-in_err-z-clause-exceeds : goal.returns-in_err-z-clause-exceeds
returns-in_err-z-clause-exceeds c = on_err c.from_residual-in_err-z.result (element_stops c.args.r.now c.args.held.now c.args.tally.now c.args.words.now c.args.a (expr_of c.args.index.now) (expr_of c.args.e.now) c.requires.fits c.in_ok-i.i c.in_ok-right.right c.in_ok-i.ensures.runs c.in_ok-right.ensures.runs c.in_err-z.ensures.full c.in_err-z.ensures.untaken)

pub write_at-requires : goal.write_at-requires
write_at-requires c = array_there c.args.r.now.kernel.now c.args.held.now c.args.a c.requires.running.shape c.requires.fits.0

pub returns-clause-runs : goal.returns-clause-runs
returns-clause-runs c = element_goes c.args.r.now c.args.held.now c.args.tally.now c.args.words.now c.args.a (expr_of c.args.index.now) (expr_of c.args.e.now) c.requires.fits c.in_ok-i.i c.in_ok-right.right c.in_ok-z.z c.in_ok-i.ensures.runs c.in_ok-right.ensures.runs c.write_rate.ensures (search rules) c.in_ok-z.ensures.ok c.write_at.ensures (search rules) (search rules) (search rules)
