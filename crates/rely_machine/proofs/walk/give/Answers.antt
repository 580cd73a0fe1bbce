use Rattle.std.proofs.Common.{rules}
use Rattle.rely_kernel.specs.Text.{expr_of}
use Rattle.rely_machine.proofs.Acting.{give_goes, give_stops}
use Rattle.rely_machine.proofs.Reading.{steps_from}
use Rattle.rely_machine.proofs.walk.give.Goals as goal

pub returns-in_err-z-clause-exceeds : goal.returns-in_err-z-clause-exceeds
returns-in_err-z-clause-exceeds c = λ is. give_stops c.args.r.now c.args.held.now c.args.tally.now (expr_of c.args.e.now) (c.value_of.ensures.exceeds (steps_from c.value_of.result c.from_residual.result c.in_err-z.field-0.0 c.from_residual.ensures.1 c.in_err-z.was is))

pub returns-clause-runs : goal.returns-clause-runs
returns-clause-runs c = give_goes c.args.r.now c.args.held.now c.args.tally.now (expr_of c.args.e.now) c.in_ok-z.z c.in_ok-z.ensures.runs c.set_result.ensures (search rules) (search rules)
