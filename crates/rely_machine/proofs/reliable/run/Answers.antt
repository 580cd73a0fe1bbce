use Rattle.std.proofs.Common.{map, sym, ap, subst, ◌∙◌}
use Rattle.std.proofs.lemmas.Result.{IfOk-weaker}
use Rattle.rely_kernel.specs.Machine.{items}
use Rattle.rely_kernel.specs.Text.{block_of}
use Rattle.rely_machine.specs.Going.{Exceeds, IsRunning, Runs}
use Rattle.rely_machine.specs.Table.{entries}
use Rattle.rely_machine.proofs.Ending.{at_once, exceeds_limit, main_fine, main_running, main_table, outcome_is}
use Rattle.rely_machine.proofs.Reading.{steps_from}
use Rattle.rely_machine.proofs.Tables.{has_table}
use Rattle.rely_machine.proofs.reliable.run.Goals as goal

pub returns-in_err-tally-clause-steps : goal.returns-in_err-tally-clause-steps
returns-in_err-tally-clause-steps c = λ is. at_once c.args.k.now c.args.start.now c.requires.linked c.requires.start c.args.limit (c.new.ensures.steps (steps_from c.new.result c.from_residual.result c.in_err-tally.field-0.0 c.from_residual.ensures.1 c.in_err-tally.was is))

pub block-requires-clause-running : goal.block-requires-clause-running
block-requires-clause-running c = subst (λ s. IsRunning c.main-main.result s c.in_ok-tally.tally) (sym c.in_ok-held.ensures) (main_running c.args.k.now c.args.start.now c.requires.linked c.requires.start c.args.limit c.main-main.result c.main-main.ensures.linked c.main-main.ensures.at c.main-main.ensures.kernel (ap (map entries) (c.main-main.ensures.tables ∙ c.as_slice.ensures.value) ∙ c.in_ok-tables.ensures) c.in_ok-tally.tally c.in_ok-tally.ensures.ok)

pub block-requires-clause-fits : goal.block-requires-clause-fits
block-requires-clause-fits c = rw c.body.ensures.statements (main_fine c.args.k.now c.args.start.now c.requires.linked c.requires.start c.args.limit c.main-main.result c.main-main.ensures.linked c.main-main.ensures.at c.main-main.ensures.kernel)

pub body-requires : goal.body-requires
body-requires c = main_table c.args.k.now c.args.start.now c.requires.linked c.requires.start c.args.limit c.main-main.result c.main-main.ensures.linked c.main-main.ensures.at c.main-main.ensures.kernel (ap (map entries) (c.main-main.ensures.tables ∙ c.as_slice.ensures.value) ∙ c.in_ok-tables.ensures)

pub block-requires-clause-table : goal.block-requires-clause-table
block-requires-clause-table c = has_table c.body.result c.main-main.result.kernel.now c.body.ensures.statements c.body.ensures.live

pub returns-in_err-block-clause-steps : goal.returns-in_err-block-clause-steps
returns-in_err-block-clause-steps c = λ is. exceeds_limit c.args.k.now c.args.start.now c.requires.linked c.requires.start c.args.limit c.main-main.result c.main-main.ensures.linked c.main-main.ensures.at c.main-main.ensures.kernel c.in_ok-tally.tally c.in_ok-tally.ensures.ok
    (subst (λ ss. Exceeds c.main-main.result (items (block_of ss)) (λ st. st) c.args.start.now c.in_ok-tally.tally) c.body.ensures.statements (subst (λ s. Exceeds c.main-main.result (items (block_of c.body.result.statements.now)) (λ st. st) s c.in_ok-tally.tally) c.in_ok-held.ensures (c.block.ensures.exceeds (steps_from c.block.result c.from_residual-in_err-block.result c.in_err-block.field-0.0 c.from_residual-in_err-block.ensures.1 c.in_err-block.was is))))

pub returns-clause-outcome : goal.returns-clause-outcome
returns-clause-outcome c = IfOk-weaker c.into_outcome.result _ _ (λ o h.
    outcome_is c.args.k.now c.args.start.now c.requires.linked c.requires.start c.args.limit c.main-main.result c.main-main.ensures.linked c.main-main.ensures.at c.main-main.ensures.kernel c.in_ok-tally.tally c.in_ok-tally.ensures.ok c.block.new.held c.block.new.tally
    (subst (λ ss. Runs c.main-main.result (items (block_of ss)) (λ st. st) (λ st. st) c.args.start.now c.in_ok-tally.tally c.block.new.held c.block.new.tally) c.body.ensures.statements (subst (λ s. Runs c.main-main.result (items (block_of c.body.result.statements.now)) (λ st. st) (λ st. st) s c.in_ok-tally.tally c.block.new.held c.block.new.tally) c.in_ok-held.ensures c.in_ok-block.ensures.runs))
    o (h.0 ∙ c.in_ok-store.ensures) h.1 h.2 h.3) c.into_outcome.ensures.ok
