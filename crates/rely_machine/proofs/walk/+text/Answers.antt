use Rattle.std.proofs.Common.{rules, ◌+◌, ◌-◌, ◌∷◌, length, OnOk, refl, sym, ap, subst, ◌∙◌, arith}
use Rattle.std.proofs.lemmas.Bool.{eqb-true}
use Rattle.std.proofs.lemmas.Result.{on_ok_weaker}
use Rattle.rely_kernel.specs.Machine.{Call, Repeat, While, Write, argument_items, fresh, functions, items, stmt_items}
use Rattle.rely_kernel.specs.Text.{Stmt, block_of, expr_of, exprs_of, stmt_of}
use Rattle.rely_kernel.specs.Running.{Fine, pushed}
use Rattle.rely_kernel.proofs.TextLemmas.{text-If, text-While, text-Repeat}
use Rattle.rely_machine.specs.Going.{Exceeds, Runs, with_entry, with_steps}
use Rattle.rely_machine.specs.Table.{first_of, second_of, table_of}
use Rattle.rely_machine.proofs.Calling.{arity, callee_fine, callee_running, callee_table, callee_valid, call_goes, call_known, call_kept, call_label, call_smaller, call_stops_body, call_stops_enter, call_stops_write, called_known}
use Rattle.rely_machine.proofs.Idling.{idle_exceeds, idle_runs_all, walk_end, walk_goes, walk_start, walk_stops}
use Rattle.rely_machine.proofs.Looping.{if_goes, if_stops, if_stops_first, leads_first, leads_start, picks_no, picks_yes, round_ends, round_goes, round_stops, round_stops_first, round_stops_then, rounds_end, steps_running, turn_goes, turn_stops, turn_stops_then, turns_end}
use Rattle.rely_machine.proofs.Reading.{scalar_long, steps_from, zero_in, zero_of}
use Rattle.rely_machine.proofs.Sizes.{block_size, stmt_size}
use Rattle.rely_machine.proofs.Tables.{first_at, fits_at, has_table, second_at, smaller_at, text_passed, within_at}
use Rattle.rely_machine.proofs.Walking.{exceeds_first}
use Rattle.rely_machine.proofs.walk.+text.Goals as goal

pub block-loop-at-init : goal.block-loop-at-init
block-loop-at-init t c = walk_start c.args.r.now (block_of c.args.text.statements.now) c.args.text.live.now c.args.held.now c.args.tally.now c.requires.table.live c.requires.running

pub block-overflow_add-second-in-loop-at : goal.block-overflow_add-second-in-loop-at
block-overflow_add-second-in-loop-at t c = let h = within_at (block_of c.args.text.statements.now) c.args.text.live.now c.loop-at.at c.index-text-at.result (omega arith) c.loop-at.invariant.left in search (rules, h)

pub block-overflow_add-behind : goal.block-overflow_add-behind
block-overflow_add-behind t c = let h = within_at (block_of c.args.text.statements.now) c.args.text.live.now c.loop-at.at c.index-text-at.result (omega arith) c.loop-at.invariant.left in search (rules, h)

pub block-slice_bounds-part-end : goal.block-slice_bounds-part-end
block-slice_bounds-part-end t c = let h = within_at (block_of c.args.text.statements.now) c.args.text.live.now c.loop-at.at c.index-text-at.result (omega arith) c.loop-at.invariant.left in search (rules, h)

pub block-slice_bounds-part-end-in-loop-at : goal.block-slice_bounds-part-end-in-loop-at
block-slice_bounds-part-end-in-loop-at t c = let h = within_at (block_of c.args.text.statements.now) c.args.text.live.now c.loop-at.at c.index-text-at.result (omega arith) c.loop-at.invariant.left in search (rules, h)

pub block-statement-requires : goal.block-statement-requires
block-statement-requires t c =
    let smaller = smaller_at (block_of c.args.text.statements.now) c.args.text.live.now c.loop-at.at c.index-text-at.result (omega arith) c.loop-at.invariant.left in
    let d = c.decreases in (
      omega (arith, d, smaller),
      (
        c.loop-at.invariant.leads.running,
        (
          fits_at (block_of c.args.text.statements.now) c.args.text.live.now c.loop-at.at c.index-text-at.result (omega arith) c.loop-at.invariant.left (functions c.args.r.now.linked.now) c.args.r.now.at c.args.r.now.kernel.now c.requires.fits,
          record {
            first = first_at (block_of c.args.text.statements.now) c.args.text.live.now c.loop-at.at c.index-text-at.result (omega arith) c.loop-at.invariant.left (c.loop-at.at + 1) _ refl refl;
            second = second_at (block_of c.args.text.statements.now) c.args.text.live.now c.loop-at.at c.index-text-at.result (omega arith) c.loop-at.invariant.left _ _ refl refl;
          },
        ),
      ),
    )

pub block-returns-in_err-statement-clause-exceeds : goal.block-returns-in_err-statement-clause-exceeds
block-returns-in_err-statement-clause-exceeds t c = λ is. walk_stops c.args.r.now (block_of c.args.text.statements.now) c.args.text.live.now c.args.held.now c.args.tally.now c.loop-at.held c.loop-at.tally c.loop-at.at c.loop-at.invariant c.index-text-at.result (omega arith)
    (c.statement.ensures.exceeds (steps_from c.statement.result c.from_residual.result c.in_err-statement.field-0.0 c.from_residual.ensures.1 c.in_err-statement.was is))

pub block-loop-at-preserved : goal.block-loop-at-preserved
block-loop-at-preserved t c = walk_goes c.args.r.now (block_of c.args.text.statements.now) c.args.text.live.now c.args.held.now c.args.tally.now c.loop-at.held c.loop-at.tally c.loop-at.at c.loop-at.invariant c.index-text-at.result (omega arith) _ refl c.in_ok-statement.ensures.runs

pub block-returns-clause-runs : goal.block-returns-clause-runs
block-returns-clause-runs t c = walk_end c.args.r.now (block_of c.args.text.statements.now) c.args.text.live.now c.args.held.now c.args.tally.now c.loop-at.held c.loop-at.tally c.loop-at.at c.loop-at.invariant (omega arith)

pub call-body-requires : goal.call-body-requires
call-body-requires t c = callee_table c.args.r.now c.args.held.now c.args.tally.now c.args.v c.args.place (exprs_of c.args.es.now) c.requires.running.known c.requires.running.linked c.requires.fits c.callee-callee.result c.callee-callee.ensures.linked c.callee-callee.ensures.tables c.callee-callee.ensures.at c.callee-callee.ensures.earlier c.callee-callee.ensures.kernel c.requires.running.tables

pub call-spare-requires : goal.call-spare-requires
call-spare-requires t c = rw c.at.ensures (called_known c.args.r.now c.args.held.now c.args.tally.now c.args.v c.args.place (exprs_of c.args.es.now) c.requires.running.known c.requires.running.linked c.requires.fits c.callee-callee.result c.callee-callee.ensures.linked c.callee-callee.ensures.tables c.callee-callee.ensures.at c.callee-callee.ensures.earlier c.callee-callee.ensures.kernel c.requires.running.rows)

pub call-returns-in_err-values_of-clause-exceeds : goal.call-returns-in_err-values_of-clause-exceeds
call-returns-in_err-values_of-clause-exceeds t c = λ is. exceeds_first c.args.r.now (λ more. Call c.args.place ∷ Write c.args.v ∷ more)
    (subst (λ t. Exceeds c.args.r.now (argument_items (exprs_of c.args.es.now)) (λ st. st) c.args.held.now t) c.spare.ensures
    (c.values_of.ensures.exceeds (steps_from c.values_of.result c.from_residual-in_err-values_of.result c.in_err-values_of.field-0.0 c.from_residual-in_err-values_of.ensures.1 c.in_err-values_of.was is)))

pub call-keep-requires : goal.call-keep-requires
call-keep-requires t c = rw c.at-4.ensures (call_kept c.args.r.now c.args.held.now c.args.tally.now c.args.v c.args.place (exprs_of c.args.es.now) c.requires.running.known c.requires.running.linked c.requires.fits c.callee-callee.result c.callee-callee.ensures.linked c.callee-callee.ensures.tables c.callee-callee.ensures.at c.callee-callee.ensures.earlier c.callee-callee.ensures.kernel c.values_of.new.tally c.values_of.new.values.items c.in_ok-values_of.ensures.numbers.0 c.in_ok-values_of.ensures.numbers.1 (subst (λ t. Runs c.args.r.now (argument_items (exprs_of c.args.es.now)) (λ st. st) (pushed c.values_of.new.values.items) c.args.held.now t c.args.held.now c.values_of.new.tally) c.spare.ensures c.in_ok-values_of.ensures.runs) c.numbers.result c.numbers.ensures c.start.new.self (c.in_ok-start.ensures c.callee-callee.result.kernel.now (callee_valid c.args.r.now c.args.held.now c.args.tally.now c.args.v c.args.place (exprs_of c.args.es.now) c.requires.running.known c.requires.running.linked c.requires.fits c.callee-callee.result c.callee-callee.ensures.linked c.callee-callee.ensures.tables c.callee-callee.ensures.at c.callee-callee.ensures.earlier c.callee-callee.ensures.kernel) (sym c.vars.ensures) (ap length c.as_slice.ensures.value ∙ (c.in_ok-values_of.ensures.numbers.0 ∙ sym (arity c.args.r.now c.args.held.now c.args.tally.now c.args.v c.args.place (exprs_of c.args.es.now) c.requires.running.known c.requires.running.linked c.requires.fits c.callee-callee.result c.callee-callee.ensures.linked c.callee-callee.ensures.tables c.callee-callee.ensures.at c.callee-callee.ensures.earlier c.callee-callee.ensures.kernel))) ∙ ap (fresh c.callee-callee.result.kernel.now) c.as_slice.ensures.value) c.enter.new.self (c.in_ok-enter.ensures.ok ∙ ap (λ g. with_entry c.values_of.new.tally g c.numbers.result) c.at-2.ensures) c.block.new.held c.block.new.tally (subst (λ ss. Runs c.callee-callee.result (items (block_of ss)) (λ st. st) (λ st. st) c.start.new.self c.enter.new.self c.block.new.held c.block.new.tally) c.body.ensures.statements c.in_ok-block.ensures.runs) c.take.new.self c.at-3.result c.write_label.result c.in_ok-take.ensures.ok)

pub call-enter-requires-clause-known : goal.call-enter-requires-clause-known
call-enter-requires-clause-known t c = rw c.at-2.ensures (call_known c.args.r.now c.args.held.now c.args.tally.now c.args.v c.args.place (exprs_of c.args.es.now) c.requires.running.known c.requires.running.linked c.requires.fits c.callee-callee.result c.callee-callee.ensures.linked c.callee-callee.ensures.tables c.callee-callee.ensures.at c.callee-callee.ensures.earlier c.callee-callee.ensures.kernel c.values_of.new.tally c.values_of.new.values.items c.in_ok-values_of.ensures.numbers.0 c.in_ok-values_of.ensures.numbers.1 (subst (λ t. Runs c.args.r.now (argument_items (exprs_of c.args.es.now)) (λ st. st) (pushed c.values_of.new.values.items) c.args.held.now t c.args.held.now c.values_of.new.tally) c.spare.ensures c.in_ok-values_of.ensures.runs))

pub call-returns-in_err-enter-clause-exceeds : goal.call-returns-in_err-enter-clause-exceeds
call-returns-in_err-enter-clause-exceeds t c = λ is. call_stops_enter c.args.r.now c.args.held.now c.args.tally.now c.args.v c.args.place (exprs_of c.args.es.now) c.requires.running.known c.requires.running.linked c.requires.fits c.callee-callee.result c.callee-callee.ensures.linked c.callee-callee.ensures.tables c.callee-callee.ensures.at c.callee-callee.ensures.earlier c.callee-callee.ensures.kernel c.values_of.new.tally c.values_of.new.values.items c.in_ok-values_of.ensures.numbers.0 c.in_ok-values_of.ensures.numbers.1 (subst (λ t. Runs c.args.r.now (argument_items (exprs_of c.args.es.now)) (λ st. st) (pushed c.values_of.new.values.items) c.args.held.now t c.args.held.now c.values_of.new.tally) c.spare.ensures c.in_ok-values_of.ensures.runs) c.numbers.result c.numbers.ensures (c.enter.ensures.steps (steps_from c.enter.result c.from_residual-in_err-enter.result c.in_err-enter.field-0.0 c.from_residual-in_err-enter.ensures.1 c.in_err-enter.was is))

pub call-block-requires : goal.call-block-requires
call-block-requires t c =
    let smaller = call_smaller c.args.r.now c.args.held.now c.args.tally.now c.args.v c.args.place (exprs_of c.args.es.now) c.requires.running.known c.requires.running.linked c.requires.fits c.callee-callee.result c.callee-callee.ensures.linked c.callee-callee.ensures.tables c.callee-callee.ensures.at c.callee-callee.ensures.earlier c.callee-callee.ensures.kernel in
    let body = ap (λ ss. block_size (block_of ss)) c.body.ensures.statements in
    let d = c.decreases in
    (omega (arith, d, smaller, body), (callee_running c.args.r.now c.args.held.now c.args.tally.now c.args.v c.args.place (exprs_of c.args.es.now) c.requires.running.known c.requires.running.linked c.requires.fits c.callee-callee.result c.callee-callee.ensures.linked c.callee-callee.ensures.tables c.callee-callee.ensures.at c.callee-callee.ensures.earlier c.callee-callee.ensures.kernel c.values_of.new.tally c.values_of.new.values.items c.in_ok-values_of.ensures.numbers.0 c.in_ok-values_of.ensures.numbers.1 (subst (λ t. Runs c.args.r.now (argument_items (exprs_of c.args.es.now)) (λ st. st) (pushed c.values_of.new.values.items) c.args.held.now t c.args.held.now c.values_of.new.tally) c.spare.ensures c.in_ok-values_of.ensures.runs) c.numbers.result c.numbers.ensures c.start.new.self (c.in_ok-start.ensures c.callee-callee.result.kernel.now (callee_valid c.args.r.now c.args.held.now c.args.tally.now c.args.v c.args.place (exprs_of c.args.es.now) c.requires.running.known c.requires.running.linked c.requires.fits c.callee-callee.result c.callee-callee.ensures.linked c.callee-callee.ensures.tables c.callee-callee.ensures.at c.callee-callee.ensures.earlier c.callee-callee.ensures.kernel) (sym c.vars.ensures) (ap length c.as_slice.ensures.value ∙ (c.in_ok-values_of.ensures.numbers.0 ∙ sym (arity c.args.r.now c.args.held.now c.args.tally.now c.args.v c.args.place (exprs_of c.args.es.now) c.requires.running.known c.requires.running.linked c.requires.fits c.callee-callee.result c.callee-callee.ensures.linked c.callee-callee.ensures.tables c.callee-callee.ensures.at c.callee-callee.ensures.earlier c.callee-callee.ensures.kernel))) ∙ ap (fresh c.callee-callee.result.kernel.now) c.as_slice.ensures.value) c.enter.new.self (c.in_ok-enter.ensures.ok ∙ ap (λ g. with_entry c.values_of.new.tally g c.numbers.result) c.at-2.ensures), (rw c.body.ensures.statements (callee_fine c.args.r.now c.args.held.now c.args.tally.now c.args.v c.args.place (exprs_of c.args.es.now) c.requires.running.known c.requires.running.linked c.requires.fits c.callee-callee.result c.callee-callee.ensures.linked c.callee-callee.ensures.tables c.callee-callee.ensures.at c.callee-callee.ensures.earlier c.callee-callee.ensures.kernel), has_table c.body.result c.callee-callee.result.kernel.now c.body.ensures.statements c.body.ensures.live)))

pub call-returns-in_err-block-clause-exceeds : goal.call-returns-in_err-block-clause-exceeds
call-returns-in_err-block-clause-exceeds t c = λ is. call_stops_body c.args.r.now c.args.held.now c.args.tally.now c.args.v c.args.place (exprs_of c.args.es.now) c.requires.running.known c.requires.running.linked c.requires.fits c.callee-callee.result c.callee-callee.ensures.linked c.callee-callee.ensures.tables c.callee-callee.ensures.at c.callee-callee.ensures.earlier c.callee-callee.ensures.kernel c.values_of.new.tally c.values_of.new.values.items c.in_ok-values_of.ensures.numbers.0 c.in_ok-values_of.ensures.numbers.1 (subst (λ t. Runs c.args.r.now (argument_items (exprs_of c.args.es.now)) (λ st. st) (pushed c.values_of.new.values.items) c.args.held.now t c.args.held.now c.values_of.new.tally) c.spare.ensures c.in_ok-values_of.ensures.runs) c.numbers.result c.numbers.ensures c.start.new.self (c.in_ok-start.ensures c.callee-callee.result.kernel.now (callee_valid c.args.r.now c.args.held.now c.args.tally.now c.args.v c.args.place (exprs_of c.args.es.now) c.requires.running.known c.requires.running.linked c.requires.fits c.callee-callee.result c.callee-callee.ensures.linked c.callee-callee.ensures.tables c.callee-callee.ensures.at c.callee-callee.ensures.earlier c.callee-callee.ensures.kernel) (sym c.vars.ensures) (ap length c.as_slice.ensures.value ∙ (c.in_ok-values_of.ensures.numbers.0 ∙ sym (arity c.args.r.now c.args.held.now c.args.tally.now c.args.v c.args.place (exprs_of c.args.es.now) c.requires.running.known c.requires.running.linked c.requires.fits c.callee-callee.result c.callee-callee.ensures.linked c.callee-callee.ensures.tables c.callee-callee.ensures.at c.callee-callee.ensures.earlier c.callee-callee.ensures.kernel))) ∙ ap (fresh c.callee-callee.result.kernel.now) c.as_slice.ensures.value) c.enter.new.self (c.in_ok-enter.ensures.ok ∙ ap (λ g. with_entry c.values_of.new.tally g c.numbers.result) c.at-2.ensures) (subst (λ ss. Exceeds c.callee-callee.result (items (block_of ss)) (λ st. st) c.start.new.self c.enter.new.self) c.body.ensures.statements (c.block.ensures.exceeds (steps_from c.block.result c.from_residual-in_err-block.result c.in_err-block.field-0.0 c.from_residual-in_err-block.ensures.1 c.in_err-block.was is)))

pub call-take-requires : goal.call-take-requires
call-take-requires t c = call_label c.args.r.now c.args.held.now c.args.tally.now c.args.v c.args.place (exprs_of c.args.es.now) c.requires.running.known c.requires.running.linked c.requires.fits c.callee-callee.result c.callee-callee.ensures.linked c.callee-callee.ensures.tables c.callee-callee.ensures.at c.callee-callee.ensures.earlier c.callee-callee.ensures.kernel c.values_of.new.tally c.values_of.new.values.items c.in_ok-values_of.ensures.numbers.0 c.in_ok-values_of.ensures.numbers.1 (subst (λ t. Runs c.args.r.now (argument_items (exprs_of c.args.es.now)) (λ st. st) (pushed c.values_of.new.values.items) c.args.held.now t c.args.held.now c.values_of.new.tally) c.spare.ensures c.in_ok-values_of.ensures.runs) c.numbers.result c.numbers.ensures c.start.new.self (c.in_ok-start.ensures c.callee-callee.result.kernel.now (callee_valid c.args.r.now c.args.held.now c.args.tally.now c.args.v c.args.place (exprs_of c.args.es.now) c.requires.running.known c.requires.running.linked c.requires.fits c.callee-callee.result c.callee-callee.ensures.linked c.callee-callee.ensures.tables c.callee-callee.ensures.at c.callee-callee.ensures.earlier c.callee-callee.ensures.kernel) (sym c.vars.ensures) (ap length c.as_slice.ensures.value ∙ (c.in_ok-values_of.ensures.numbers.0 ∙ sym (arity c.args.r.now c.args.held.now c.args.tally.now c.args.v c.args.place (exprs_of c.args.es.now) c.requires.running.known c.requires.running.linked c.requires.fits c.callee-callee.result c.callee-callee.ensures.linked c.callee-callee.ensures.tables c.callee-callee.ensures.at c.callee-callee.ensures.earlier c.callee-callee.ensures.kernel))) ∙ ap (fresh c.callee-callee.result.kernel.now) c.as_slice.ensures.value) c.enter.new.self (c.in_ok-enter.ensures.ok ∙ ap (λ g. with_entry c.values_of.new.tally g c.numbers.result) c.at-2.ensures) c.block.new.held c.block.new.tally (subst (λ ss. Runs c.callee-callee.result (items (block_of ss)) (λ st. st) (λ st. st) c.start.new.self c.enter.new.self c.block.new.held c.block.new.tally) c.body.ensures.statements c.in_ok-block.ensures.runs) c.at-3.result c.write_label.result c.at-3.ensures c.write_label.ensures

pub call-returns-in_err-take-clause-exceeds : goal.call-returns-in_err-take-clause-exceeds
call-returns-in_err-take-clause-exceeds t c = λ is. call_stops_write c.args.r.now c.args.held.now c.args.tally.now c.args.v c.args.place (exprs_of c.args.es.now) c.requires.running.known c.requires.running.linked c.requires.fits c.callee-callee.result c.callee-callee.ensures.linked c.callee-callee.ensures.tables c.callee-callee.ensures.at c.callee-callee.ensures.earlier c.callee-callee.ensures.kernel c.values_of.new.tally c.values_of.new.values.items c.in_ok-values_of.ensures.numbers.0 c.in_ok-values_of.ensures.numbers.1 (subst (λ t. Runs c.args.r.now (argument_items (exprs_of c.args.es.now)) (λ st. st) (pushed c.values_of.new.values.items) c.args.held.now t c.args.held.now c.values_of.new.tally) c.spare.ensures c.in_ok-values_of.ensures.runs) c.numbers.result c.numbers.ensures c.start.new.self (c.in_ok-start.ensures c.callee-callee.result.kernel.now (callee_valid c.args.r.now c.args.held.now c.args.tally.now c.args.v c.args.place (exprs_of c.args.es.now) c.requires.running.known c.requires.running.linked c.requires.fits c.callee-callee.result c.callee-callee.ensures.linked c.callee-callee.ensures.tables c.callee-callee.ensures.at c.callee-callee.ensures.earlier c.callee-callee.ensures.kernel) (sym c.vars.ensures) (ap length c.as_slice.ensures.value ∙ (c.in_ok-values_of.ensures.numbers.0 ∙ sym (arity c.args.r.now c.args.held.now c.args.tally.now c.args.v c.args.place (exprs_of c.args.es.now) c.requires.running.known c.requires.running.linked c.requires.fits c.callee-callee.result c.callee-callee.ensures.linked c.callee-callee.ensures.tables c.callee-callee.ensures.at c.callee-callee.ensures.earlier c.callee-callee.ensures.kernel))) ∙ ap (fresh c.callee-callee.result.kernel.now) c.as_slice.ensures.value) c.enter.new.self (c.in_ok-enter.ensures.ok ∙ ap (λ g. with_entry c.values_of.new.tally g c.numbers.result) c.at-2.ensures) c.block.new.held c.block.new.tally (subst (λ ss. Runs c.callee-callee.result (items (block_of ss)) (λ st. st) (λ st. st) c.start.new.self c.enter.new.self c.block.new.held c.block.new.tally) c.body.ensures.statements c.in_ok-block.ensures.runs) (c.take.ensures.steps (steps_from c.take.result c.from_residual-in_err-take.result c.in_err-take.field-0.0 c.from_residual-in_err-take.ensures.1 c.in_err-take.was is))

pub call-write-requires : goal.call-write-requires
call-write-requires t c = scalar_long c.args.r.now.kernel.now c.args.held.now c.args.v c.requires.running.shape c.requires.fits.0

pub call-returns-clause-runs : goal.call-returns-clause-runs
call-returns-clause-runs t c = call_goes c.args.r.now c.args.held.now c.args.tally.now c.args.v c.args.place (exprs_of c.args.es.now) c.requires.running.known c.requires.running.linked c.requires.fits c.callee-callee.result c.callee-callee.ensures.linked c.callee-callee.ensures.tables c.callee-callee.ensures.at c.callee-callee.ensures.earlier c.callee-callee.ensures.kernel c.values_of.new.tally c.values_of.new.values.items c.in_ok-values_of.ensures.numbers.0 c.in_ok-values_of.ensures.numbers.1 (subst (λ t. Runs c.args.r.now (argument_items (exprs_of c.args.es.now)) (λ st. st) (pushed c.values_of.new.values.items) c.args.held.now t c.args.held.now c.values_of.new.tally) c.spare.ensures c.in_ok-values_of.ensures.runs) c.numbers.result c.numbers.ensures c.start.new.self (c.in_ok-start.ensures c.callee-callee.result.kernel.now (callee_valid c.args.r.now c.args.held.now c.args.tally.now c.args.v c.args.place (exprs_of c.args.es.now) c.requires.running.known c.requires.running.linked c.requires.fits c.callee-callee.result c.callee-callee.ensures.linked c.callee-callee.ensures.tables c.callee-callee.ensures.at c.callee-callee.ensures.earlier c.callee-callee.ensures.kernel) (sym c.vars.ensures) (ap length c.as_slice.ensures.value ∙ (c.in_ok-values_of.ensures.numbers.0 ∙ sym (arity c.args.r.now c.args.held.now c.args.tally.now c.args.v c.args.place (exprs_of c.args.es.now) c.requires.running.known c.requires.running.linked c.requires.fits c.callee-callee.result c.callee-callee.ensures.linked c.callee-callee.ensures.tables c.callee-callee.ensures.at c.callee-callee.ensures.earlier c.callee-callee.ensures.kernel))) ∙ ap (fresh c.callee-callee.result.kernel.now) c.as_slice.ensures.value) c.enter.new.self (c.in_ok-enter.ensures.ok ∙ ap (λ g. with_entry c.values_of.new.tally g c.numbers.result) c.at-2.ensures) c.block.new.held c.block.new.tally (subst (λ ss. Runs c.callee-callee.result (items (block_of ss)) (λ st. st) (λ st. st) c.start.new.self c.enter.new.self c.block.new.held c.block.new.tally) c.body.ensures.statements c.in_ok-block.ensures.runs) c.at-3.result c.write_label.result c.write.ensures (search rules) (c.keep.ensures ∙ c.in_ok-take.ensures.ok) c.at-3.ensures c.write_label.ensures

pub choose-returns-in_err-z-clause-exceeds : goal.choose-returns-in_err-z-clause-exceeds
choose-returns-in_err-z-clause-exceeds t c = λ is. if_stops_first c.args.r.now (expr_of c.args.e.now) (block_of c.args.s.statements.now) (block_of c.args.t.statements.now) c.args.held.now c.args.tally.now (c.value_of.ensures.exceeds (steps_from c.value_of.result c.from_residual.result c.in_err-z.field-0.0 c.from_residual.ensures.1 c.in_err-z.was is))

pub choose-block-requires : goal.choose-block-requires
choose-block-requires t c = let d = c.decreases in (omega (arith, d), (c.in_ok-z.ensures.runs.running, (c.requires.fits.1, c.requires.first)))

pub choose-block-requires-else-z-ne0 : goal.choose-block-requires-else-z-ne0
choose-block-requires-else-z-ne0 t c = let d = c.decreases in (omega (arith, d), (c.in_ok-z.ensures.runs.running, (c.requires.fits.2, c.requires.second)))

pub choose-returns-then-z-ne0-clause-runs : goal.choose-returns-then-z-ne0-clause-runs
choose-returns-then-z-ne0-clause-runs t c = on_ok_weaker c.block.result (λ h. if_goes c.args.r.now (expr_of c.args.e.now) (block_of c.args.s.statements.now) (block_of c.args.t.statements.now) c.args.held.now c.args.tally.now (block_of c.args.s.statements.now) c.in_ok-z.z c.in_ok-z.ensures.runs (picks_yes c.args.r.now (block_of c.args.s.statements.now) (block_of c.args.t.statements.now) c.in_ok-z.z (λ e. c.if-z-ne0.true (zero_in c.in_ok-z.z e))) h) c.block.ensures.runs

pub choose-returns-then-z-ne0-clause-exceeds : goal.choose-returns-then-z-ne0-clause-exceeds
choose-returns-then-z-ne0-clause-exceeds t c = λ is. if_stops c.args.r.now (expr_of c.args.e.now) (block_of c.args.s.statements.now) (block_of c.args.t.statements.now) c.args.held.now c.args.tally.now (block_of c.args.s.statements.now) c.in_ok-z.z c.in_ok-z.ensures.runs (picks_yes c.args.r.now (block_of c.args.s.statements.now) (block_of c.args.t.statements.now) c.in_ok-z.z (λ e. c.if-z-ne0.true (zero_in c.in_ok-z.z e))) (c.block.ensures.exceeds is)

pub choose-returns-else-z-ne0-clause-runs : goal.choose-returns-else-z-ne0-clause-runs
choose-returns-else-z-ne0-clause-runs t c = on_ok_weaker c.block-else-z-ne0.result (λ h. if_goes c.args.r.now (expr_of c.args.e.now) (block_of c.args.s.statements.now) (block_of c.args.t.statements.now) c.args.held.now c.args.tally.now (block_of c.args.t.statements.now) c.in_ok-z.z c.in_ok-z.ensures.runs (picks_no c.args.r.now (block_of c.args.s.statements.now) (block_of c.args.t.statements.now) c.in_ok-z.z (zero_of c.in_ok-z.z (search rules) c.if-z-ne0.false)) h) c.block-else-z-ne0.ensures.runs

pub choose-returns-else-z-ne0-clause-exceeds : goal.choose-returns-else-z-ne0-clause-exceeds
choose-returns-else-z-ne0-clause-exceeds t c = λ is. if_stops c.args.r.now (expr_of c.args.e.now) (block_of c.args.s.statements.now) (block_of c.args.t.statements.now) c.args.held.now c.args.tally.now (block_of c.args.t.statements.now) c.in_ok-z.z c.in_ok-z.ensures.runs (picks_no c.args.r.now (block_of c.args.s.statements.now) (block_of c.args.t.statements.now) c.in_ok-z.z (zero_of c.in_ok-z.z (search rules) c.if-z-ne0.false)) (c.block-else-z-ne0.ensures.exceeds is)

pub rounds-loop-init : goal.rounds-loop-init
rounds-loop-init t c = leads_start c.args.r.now (λ n is. While (expr_of c.args.e.now) n (block_of c.args.text.statements.now) ∷ is) c.args.n (c.args.n - 0) (omega arith) c.args.held.now c.args.tally.now c.requires.running

pub rounds-value_of-requires-clause-running : goal.rounds-value_of-requires-clause-running
rounds-value_of-requires-clause-running t c = c.loop.invariant.running

pub rounds-returns-in_err-z-clause-exceeds : goal.rounds-returns-in_err-z-clause-exceeds
rounds-returns-in_err-z-clause-exceeds t c = λ is. round_stops_first c.args.r.now (λ is. While (expr_of c.args.e.now) c.args.n (block_of c.args.text.statements.now) ∷ is) (expr_of c.args.e.now) (block_of c.args.text.statements.now) c.args.held.now c.loop.held c.args.tally.now c.loop.tally (c.args.n - c.loop.counter) (c.args.n - (c.loop.counter + 1)) (omega (arith, c.loop-test.true)) c.loop.invariant (c.value_of.ensures.exceeds (steps_from c.value_of.result c.from_residual.result c.in_err-z.field-0.0 c.from_residual.ensures.1 c.in_err-z.was is))

pub rounds-returns-then-z-eq0-clause-runs : goal.rounds-returns-then-z-eq0-clause-runs
rounds-returns-then-z-eq0-clause-runs t c = round_ends c.args.r.now (λ is. While (expr_of c.args.e.now) c.args.n (block_of c.args.text.statements.now) ∷ is) (expr_of c.args.e.now) (block_of c.args.text.statements.now) c.args.held.now c.loop.held c.args.tally.now c.loop.tally (c.args.n - c.loop.counter) (c.args.n - (c.loop.counter + 1)) (omega (arith, c.loop-test.true)) c.in_ok-z.z c.loop.invariant c.in_ok-z.ensures.runs (zero_of c.in_ok-z.z (search rules) c.if-z-eq0.true)

pub rounds-returns-in_err-walk-clause-exceeds : goal.rounds-returns-in_err-walk-clause-exceeds
rounds-returns-in_err-walk-clause-exceeds t c = λ is. round_stops c.args.r.now (λ is. While (expr_of c.args.e.now) c.args.n (block_of c.args.text.statements.now) ∷ is) (expr_of c.args.e.now) (block_of c.args.text.statements.now) c.args.held.now c.loop.held c.args.tally.now c.loop.tally (c.args.n - c.loop.counter) (c.args.n - (c.loop.counter + 1)) (omega (arith, c.loop-test.true)) c.in_ok-z.z c.loop.invariant c.in_ok-z.ensures.runs (λ e. c.if-z-eq0.false (zero_in c.in_ok-z.z e)) (c.walk.ensures.steps (steps_from c.walk.result c.from_residual-in_err-walk.result c.in_err-walk.field-0.0 c.from_residual-in_err-walk.ensures.1 c.in_err-walk.was is))

pub rounds-block-requires : goal.rounds-block-requires
rounds-block-requires t c = let d = c.decreases in (omega (arith, d), (rw c.in_ok-walk.ensures.ok (steps_running c.args.r.now c.loop.held c.value_of.new.tally 1 c.in_ok-z.ensures.runs.running), (c.requires.fits.1, c.requires.table)))

pub rounds-returns-in_err-block-clause-exceeds : goal.rounds-returns-in_err-block-clause-exceeds
rounds-returns-in_err-block-clause-exceeds t c = λ is. round_stops_then c.args.r.now (λ is. While (expr_of c.args.e.now) c.args.n (block_of c.args.text.statements.now) ∷ is) (expr_of c.args.e.now) (block_of c.args.text.statements.now) c.args.held.now c.loop.held c.args.tally.now c.loop.tally (c.args.n - c.loop.counter) (c.args.n - (c.loop.counter + 1)) (omega (arith, c.loop-test.true)) c.in_ok-z.z c.loop.invariant c.in_ok-z.ensures.runs (λ e. c.if-z-eq0.false (zero_in c.in_ok-z.z e)) c.in_ok-walk.ensures.ok (c.block.ensures.exceeds (steps_from c.block.result c.from_residual-in_err-block.result c.in_err-block.field-0.0 c.from_residual-in_err-block.ensures.1 c.in_err-block.was is))

pub rounds-loop-preserved : goal.rounds-loop-preserved
rounds-loop-preserved t c = round_goes c.args.r.now (λ is. While (expr_of c.args.e.now) c.args.n (block_of c.args.text.statements.now) ∷ is) (expr_of c.args.e.now) (block_of c.args.text.statements.now) c.args.held.now c.loop.held c.args.tally.now c.loop.tally (c.args.n - c.loop.counter) (c.args.n - (c.loop.counter + 1)) (omega (arith, c.loop-test.true)) c.in_ok-z.z c.loop.invariant c.in_ok-z.ensures.runs (λ e. c.if-z-eq0.false (zero_in c.in_ok-z.z e)) c.in_ok-walk.ensures.ok c.in_ok-block.ensures.runs

pub rounds-returns-clause-runs : goal.rounds-returns-clause-runs
rounds-returns-clause-runs t c = rounds_end c.args.r.now (λ is. While (expr_of c.args.e.now) c.args.n (block_of c.args.text.statements.now) ∷ is) (expr_of c.args.e.now) (block_of c.args.text.statements.now) c.args.held.now c.loop.held c.args.tally.now c.loop.tally (c.args.n - c.loop.counter) (omega (arith, c.loop-test.false)) c.loop.invariant

pub turns-returns-then-is_empty-clause-runs : goal.turns-returns-then-is_empty-clause-runs
turns-returns-then-is_empty-clause-runs t c = on_ok_weaker c.walk.result (λ e. idle_runs_all c.args.r.now (block_of c.args.text.statements.now) (text_passed c.args.text c.requires.table (eqb-true (length c.args.text.live.now) 0 (sym c.if-is_empty.ensures))) (λ is. Repeat c.args.n (block_of c.args.text.statements.now) ∷ is) c.args.held.now c.args.tally.now c.args.n c.args.tally.now c.walk.new.self (e ∙ ap (λ n. with_steps c.args.tally.now n) c.from.ensures) (leads_first c.args.r.now (λ is. Repeat c.args.n (block_of c.args.text.statements.now) ∷ is) c.args.held.now c.args.tally.now c.requires.running)) c.walk.ensures.ok

pub turns-returns-then-is_empty-clause-exceeds : goal.turns-returns-then-is_empty-clause-exceeds
turns-returns-then-is_empty-clause-exceeds t c = λ is.
    let over = c.walk.ensures.steps is in
    idle_exceeds c.args.r.now (block_of c.args.text.statements.now) (text_passed c.args.text c.requires.table (eqb-true (length c.args.text.live.now) 0 (sym c.if-is_empty.ensures))) (λ is. Repeat c.args.n (block_of c.args.text.statements.now) ∷ is) c.args.held.now c.args.tally.now c.args.n c.args.tally.now refl (omega (arith, over, c.from.ensures)) (leads_first c.args.r.now (λ is. Repeat c.args.n (block_of c.args.text.statements.now) ∷ is) c.args.held.now c.args.tally.now c.requires.running)

pub turns-loop-init : goal.turns-loop-init
turns-loop-init t c = leads_start c.args.r.now (λ n is. Repeat n (block_of c.args.text.statements.now) ∷ is) c.args.n (c.args.n - 0) (omega arith) c.args.held.now c.args.tally.now c.requires.running

pub turns-returns-in_err-walk-clause-exceeds : goal.turns-returns-in_err-walk-clause-exceeds
turns-returns-in_err-walk-clause-exceeds t c = λ is. turn_stops c.args.r.now (λ is. Repeat c.args.n (block_of c.args.text.statements.now) ∷ is) (block_of c.args.text.statements.now) c.args.held.now c.loop.held c.args.tally.now c.loop.tally (c.args.n - c.loop.counter) (c.args.n - (c.loop.counter + 1)) (omega (arith, c.loop-test.true)) c.loop.invariant (c.walk-in-loop.ensures.steps (steps_from c.walk-in-loop.result c.from_residual.result c.in_err-walk.field-0.0 c.from_residual.ensures.1 c.in_err-walk.was is))

pub turns-block-requires : goal.turns-block-requires
turns-block-requires t c = let d = c.decreases in (omega (arith, d), (rw c.in_ok-walk.ensures.ok (steps_running c.args.r.now c.loop.held c.loop.tally 1 c.loop.invariant.running), (c.requires.fits, c.requires.table)))

pub turns-returns-in_err-block-clause-exceeds : goal.turns-returns-in_err-block-clause-exceeds
turns-returns-in_err-block-clause-exceeds t c = λ is. turn_stops_then c.args.r.now (λ is. Repeat c.args.n (block_of c.args.text.statements.now) ∷ is) (block_of c.args.text.statements.now) c.args.held.now c.loop.held c.args.tally.now c.loop.tally (c.args.n - c.loop.counter) (c.args.n - (c.loop.counter + 1)) (omega (arith, c.loop-test.true)) c.loop.invariant c.in_ok-walk.ensures.ok (c.block.ensures.exceeds (steps_from c.block.result c.from_residual-in_err-block.result c.in_err-block.field-0.0 c.from_residual-in_err-block.ensures.1 c.in_err-block.was is))

pub turns-loop-preserved : goal.turns-loop-preserved
turns-loop-preserved t c = turn_goes c.args.r.now (λ is. Repeat c.args.n (block_of c.args.text.statements.now) ∷ is) (block_of c.args.text.statements.now) c.args.held.now c.loop.held c.args.tally.now c.loop.tally (c.args.n - c.loop.counter) (c.args.n - (c.loop.counter + 1)) (omega (arith, c.loop-test.true)) c.loop.invariant c.in_ok-walk.ensures.ok c.in_ok-block.ensures.runs

pub turns-returns-clause-runs : goal.turns-returns-clause-runs
turns-returns-clause-runs t c = turns_end c.args.r.now (λ is. Repeat c.args.n (block_of c.args.text.statements.now) ∷ is) (block_of c.args.text.statements.now) c.args.held.now c.loop.held c.args.tally.now c.loop.tally (c.args.n - c.loop.counter) (omega (arith, c.loop-test.false)) c.loop.invariant

pub statement-choose-requires : goal.statement-choose-requires
statement-choose-requires t c =
    let e = ap stmt_size (ap stmt_of c.in-If.is ∙ text-If c.in-If.e c.in-If.s c.in-If.t) in
    let a = ap (λ ss. block_size (block_of ss)) c.as_slice.ensures in
    let b = ap (λ ss. block_size (block_of ss)) c.as_slice-in-If.ensures in
    let d = c.decreases in
    (omega (arith, d, e, a, b), (c.requires.running, (rw (c.as_slice.ensures, c.as_slice-in-If.ensures) (subst (Fine (functions c.args.r.now.linked.now) c.args.r.now.at c.args.r.now.kernel.now) (ap stmt_of c.in-If.is ∙ text-If c.in-If.e c.in-If.s c.in-If.t) c.requires.fits), (record { live = c.requires.tables.first ∙ (ap first_of (ap stmt_of c.in-If.is ∙ text-If c.in-If.e c.in-If.s c.in-If.t) ∙ sym (ap (λ ss. table_of (block_of ss)) c.as_slice.ensures)) }, record { live = c.requires.tables.second ∙ (ap second_of (ap stmt_of c.in-If.is ∙ text-If c.in-If.e c.in-If.s c.in-If.t) ∙ sym (ap (λ ss. table_of (block_of ss)) c.as_slice-in-If.ensures)) }))))

pub statement-rounds-requires : goal.statement-rounds-requires
statement-rounds-requires t c =
    let e = ap stmt_size (ap stmt_of c.in-While.is ∙ text-While c.in-While.e c.in-While.n c.in-While.s) in
    let a = ap (λ ss. block_size (block_of ss)) c.as_slice-in-While.ensures in
    let d = c.decreases in
    (omega (arith, d, e, a), (c.requires.running, (rw c.as_slice-in-While.ensures (subst (Fine (functions c.args.r.now.linked.now) c.args.r.now.at c.args.r.now.kernel.now) (ap stmt_of c.in-While.is ∙ text-While c.in-While.e c.in-While.n c.in-While.s) c.requires.fits), record { live = c.requires.tables.first ∙ (ap first_of (ap stmt_of c.in-While.is ∙ text-While c.in-While.e c.in-While.n c.in-While.s) ∙ sym (ap (λ ss. table_of (block_of ss)) c.as_slice-in-While.ensures)) })))

pub statement-turns-requires : goal.statement-turns-requires
statement-turns-requires t c =
    let e = ap stmt_size (ap stmt_of c.in-Repeat.is ∙ text-Repeat c.in-Repeat.n c.in-Repeat.s) in
    let a = ap (λ ss. block_size (block_of ss)) c.as_slice-in-Repeat.ensures in
    let d = c.decreases in
    (omega (arith, d, e, a), (c.requires.running, (rw c.as_slice-in-Repeat.ensures (subst (Fine (functions c.args.r.now.linked.now) c.args.r.now.at c.args.r.now.kernel.now) (ap stmt_of c.in-Repeat.is ∙ text-Repeat c.in-Repeat.n c.in-Repeat.s) c.requires.fits), record { live = c.requires.tables.first ∙ (ap first_of (ap stmt_of c.in-Repeat.is ∙ text-Repeat c.in-Repeat.n c.in-Repeat.s) ∙ sym (ap (λ ss. table_of (block_of ss)) c.as_slice-in-Repeat.ensures)) })))

pub statement-call-requires : goal.statement-call-requires
statement-call-requires t c =
    let e = ap stmt_size (ap stmt_of c.in-Call.is) in
    let d = c.decreases in
    (omega (arith, d, e), (c.requires.running, rw c.as_slice-in-Call.ensures (subst (Fine (functions c.args.r.now.linked.now) c.args.r.now.at c.args.r.now.kernel.now) (ap stmt_of c.in-Call.is) c.requires.fits)))

pub statement-returns-in-If-clause-runs : goal.statement-returns-in-If-clause-runs
statement-returns-in-If-clause-runs t c = subst (λ x. OnOk c.choose.result (Runs c.args.r.now (stmt_items x) (λ st. st) (λ st. st) c.args.held.now c.args.tally.now c.choose.new.held c.choose.new.tally)) (ap (λ ss. Stmt.If (expr_of c.in-If.e) (block_of ss) (block_of c.as_slice-in-If.result.now)) c.as_slice.ensures ∙ (ap (λ ss. Stmt.If (expr_of c.in-If.e) (block_of c.in-If.s) (block_of ss)) c.as_slice-in-If.ensures ∙ sym (ap stmt_of c.in-If.is ∙ text-If c.in-If.e c.in-If.s c.in-If.t))) c.choose.ensures.runs

pub statement-returns-in-If-clause-exceeds : goal.statement-returns-in-If-clause-exceeds
statement-returns-in-If-clause-exceeds t c = λ is. subst (λ x. Exceeds c.args.r.now (stmt_items x) (λ st. st) c.args.held.now c.args.tally.now) (ap (λ ss. Stmt.If (expr_of c.in-If.e) (block_of ss) (block_of c.as_slice-in-If.result.now)) c.as_slice.ensures ∙ (ap (λ ss. Stmt.If (expr_of c.in-If.e) (block_of c.in-If.s) (block_of ss)) c.as_slice-in-If.ensures ∙ sym (ap stmt_of c.in-If.is ∙ text-If c.in-If.e c.in-If.s c.in-If.t))) (c.choose.ensures.exceeds is)

pub statement-returns-in-While-clause-runs : goal.statement-returns-in-While-clause-runs
statement-returns-in-While-clause-runs t c = subst (λ x. OnOk c.rounds.result (Runs c.args.r.now (stmt_items x) (λ st. st) (λ st. st) c.args.held.now c.args.tally.now c.rounds.new.held c.rounds.new.tally)) (ap (λ ss. Stmt.While (expr_of c.in-While.e) c.in-While.n (block_of ss)) c.as_slice-in-While.ensures ∙ sym (ap stmt_of c.in-While.is ∙ text-While c.in-While.e c.in-While.n c.in-While.s)) c.rounds.ensures.runs

pub statement-returns-in-While-clause-exceeds : goal.statement-returns-in-While-clause-exceeds
statement-returns-in-While-clause-exceeds t c = λ is. subst (λ x. Exceeds c.args.r.now (stmt_items x) (λ st. st) c.args.held.now c.args.tally.now) (ap (λ ss. Stmt.While (expr_of c.in-While.e) c.in-While.n (block_of ss)) c.as_slice-in-While.ensures ∙ sym (ap stmt_of c.in-While.is ∙ text-While c.in-While.e c.in-While.n c.in-While.s)) (c.rounds.ensures.exceeds is)

pub statement-returns-in-Repeat-clause-runs : goal.statement-returns-in-Repeat-clause-runs
statement-returns-in-Repeat-clause-runs t c = subst (λ x. OnOk c.turns.result (Runs c.args.r.now (stmt_items x) (λ st. st) (λ st. st) c.args.held.now c.args.tally.now c.turns.new.held c.turns.new.tally)) (ap (λ ss. Stmt.Repeat c.in-Repeat.n (block_of ss)) c.as_slice-in-Repeat.ensures ∙ sym (ap stmt_of c.in-Repeat.is ∙ text-Repeat c.in-Repeat.n c.in-Repeat.s)) c.turns.ensures.runs

pub statement-returns-in-Repeat-clause-exceeds : goal.statement-returns-in-Repeat-clause-exceeds
statement-returns-in-Repeat-clause-exceeds t c = λ is. subst (λ x. Exceeds c.args.r.now (stmt_items x) (λ st. st) c.args.held.now c.args.tally.now) (ap (λ ss. Stmt.Repeat c.in-Repeat.n (block_of ss)) c.as_slice-in-Repeat.ensures ∙ sym (ap stmt_of c.in-Repeat.is ∙ text-Repeat c.in-Repeat.n c.in-Repeat.s)) (c.turns.ensures.exceeds is)
