use Rattle.std.proofs.Common.{rules}
use Rattle.rely_faults.proofs.Ending.{passes_by, untouched}
use Rattle.rely_faults.proofs.Walking.{on_err}
use Rattle.rely_faults.proofs.simulator.Simulator.trial.Goals as goal

pub returns-in_err-copy_from-clause-refused : goal.returns-in_err-copy_from-clause-refused
returns-in_err-copy_from-clause-refused c = on_err c.from_residual.result (untouched c.args.self.now.kernel c.args.self.now.hardware c.args.self.now.setting c.args.start.now c.args.words.now)

pub returns-in_err-tally-clause-steps : goal.returns-in_err-tally-clause-steps
returns-in_err-tally-clause-steps c = λ is.
    passes_by c.args.self.now.kernel c.args.self.now.hardware c.args.self.now.setting c.args.start.now c.args.words.now c.args.limit c.finish.new.words (search rules)
