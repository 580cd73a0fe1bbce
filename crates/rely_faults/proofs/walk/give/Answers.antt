use Rattle.std.proofs.Common.{rules}
use Rattle.rely_kernel.specs.Text.{expr_of}
use Rattle.rely_faults.proofs.Acting.{give_goes, give_stops}
use Rattle.rely_faults.proofs.Walking.{on_err}
use Rattle.rely_faults.proofs.walk.give.Goals as goal

pub returns-in_err-z-clause-exceeds : goal.returns-in_err-z-clause-exceeds
returns-in_err-z-clause-exceeds c = on_err c.from_residual.result (give_stops c.args.r.now c.args.held.now c.args.tally.now c.args.words.now (expr_of c.args.e.now) c.in_err-z.ensures.exceeds)

pub returns-clause-runs : goal.returns-clause-runs
returns-clause-runs c = give_goes c.args.r.now c.args.held.now c.args.tally.now c.args.words.now (expr_of c.args.e.now) c.in_ok-z.z c.in_ok-z.ensures.runs c.set_result.ensures (search rules) (search rules)
