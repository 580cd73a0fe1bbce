use Rattle.rely_faults.proofs.Ending.{alone_fine, stops, stops_at_once, tried_is}
use Rattle.rely_faults.proofs.Walking.{on_err}
use Rattle.rely_faults.proofs.seeded.finish.Goals as goal

pub returns-in_err-tally-clause-stopped : goal.returns-in_err-tally-clause-stopped
returns-in_err-tally-clause-stopped c = on_err c.from_residual.result (stops_at_once c.args.r.now c.args.held.now c.args.words.now c.args.limit c.in_err-tally.ensures.steps)

pub block-requires-clause-fits : goal.block-requires-clause-fits
block-requires-clause-fits c = rw c.body.ensures (alone_fine c.args.r.now.kernel.now c.requires.setup.no_calls c.requires.setup.valid)

pub returns-in_err-block-clause-stopped : goal.returns-in_err-block-clause-stopped
returns-in_err-block-clause-stopped c = on_err c.from_residual-in_err-block.result (stops c.args.r.now c.args.held.now c.args.words.now c.args.limit
    c.in_ok-tally.tally c.in_ok-tally.ensures.ok c.body.result.now c.body.ensures c.block.new.words c.in_err-block.ensures.exceeds)

pub returns-clause-ok : goal.returns-clause-ok
returns-clause-ok c = tried_is c.args.r.now c.args.held.now c.args.words.now c.args.limit c.in_ok-tally.tally c.in_ok-tally.ensures.ok c.body.result.now c.body.ensures
    c.block.new.held c.block.new.tally c.block.new.words c.in_ok-block.ensures.runs
