use Rattle.std.proofs.Common.{rules, ◌+◌, ◌-◌, [], ◌∷◌, OnErr, OnOk, refl, sym, ap, subst, ◌∙◌, arith}
use Rattle.std.proofs.lemmas.Result.{on_err_weaker, on_ok_weaker}
use Rattle.rely_kernel.specs.Machine.{Repeat, While, stmt_items}
use Rattle.rely_kernel.specs.Text.{Stmt, block_of, expr_of, stmt_of}
use Rattle.rely_kernel.specs.Running.{Fine}
use Rattle.rely_kernel.proofs.TextLemmas.{text-If, text-While, text-Repeat}
use Rattle.rely_machine.specs.Table.{first_of, second_of, table_of}
use Rattle.rely_machine.proofs.Reading.{zero_in, zero_of}
use Rattle.rely_machine.proofs.Sizes.{block_size, stmt_size}
use Rattle.rely_machine.proofs.Tables.{first_at, fits_at, second_at, smaller_at, within_at}
use Rattle.rely_faults.specs.Going.{Exceeds, Runs, here}
use Rattle.rely_faults.proofs.Idling.{walk_end, walk_goes, walk_start, walk_stops}
use Rattle.rely_faults.proofs.Looping.{if_goes, if_stops, if_stops_first, leads_start, picks_no, picks_yes, round_ends, round_goes, round_stops, round_stops_first, round_stops_then, rounds_end, turn_goes, turn_stops, turn_stops_then, turns_end}
use Rattle.rely_faults.proofs.Walking.{on_err}
use Rattle.rely_faults.proofs.walk.+text.Goals as goal

pub block-loop-at-init : goal.block-loop-at-init
block-loop-at-init t c = walk_start c.args.r.now (block_of c.args.text.statements.now) c.args.text.live.now (here c.args.held.now c.args.tally.now c.args.words.now) c.requires.table.live c.requires.running

pub block-overflow_add-second-in-loop-at : goal.block-overflow_add-second-in-loop-at
block-overflow_add-second-in-loop-at t c = let h = within_at (block_of c.args.text.statements.now) c.args.text.live.now c.loop-at.at c.index-text-at.result (omega arith) c.loop-at.invariant.left in search (rules, h)

pub block-overflow_add-behind : goal.block-overflow_add-behind
block-overflow_add-behind t c = let h = within_at (block_of c.args.text.statements.now) c.args.text.live.now c.loop-at.at c.index-text-at.result (omega arith) c.loop-at.invariant.left in search (rules, h)

pub block-slice_bounds-part-end : goal.block-slice_bounds-part-end
block-slice_bounds-part-end t c = let h = within_at (block_of c.args.text.statements.now) c.args.text.live.now c.loop-at.at c.index-text-at.result (omega arith) c.loop-at.invariant.left in search (rules, h)

pub block-slice_bounds-part-end-in-loop-at : goal.block-slice_bounds-part-end-in-loop-at
block-slice_bounds-part-end-in-loop-at t c = let h = within_at (block_of c.args.text.statements.now) c.args.text.live.now c.loop-at.at c.index-text-at.result (omega arith) c.loop-at.invariant.left in search (rules, h)

pub block-statement-requires : goal.block-statement-requires
block-statement-requires t c =
    let smaller = smaller_at (block_of c.args.text.statements.now) c.args.text.live.now c.loop-at.at c.index-text-at.result (omega arith) c.loop-at.invariant.left in
    let d = c.decreases in (
      omega (arith, d, smaller),
      (
        c.loop-at.invariant.leads.running,
        (
          fits_at (block_of c.args.text.statements.now) c.args.text.live.now c.loop-at.at c.index-text-at.result (omega arith) c.loop-at.invariant.left (c.args.r.now.kernel.now ∷ []) 0 c.args.r.now.kernel.now c.requires.fits,
          record {
            first = first_at (block_of c.args.text.statements.now) c.args.text.live.now c.loop-at.at c.index-text-at.result (omega arith) c.loop-at.invariant.left (c.loop-at.at + 1) _ refl refl;
            second = second_at (block_of c.args.text.statements.now) c.args.text.live.now c.loop-at.at c.index-text-at.result (omega arith) c.loop-at.invariant.left _ _ refl refl;
          },
        ),
      ),
    )

pub block-returns-in_err-statement-clause-exceeds : goal.block-returns-in_err-statement-clause-exceeds
block-returns-in_err-statement-clause-exceeds t c = on_err c.from_residual.result (walk_stops c.args.r.now (block_of c.args.text.statements.now) c.args.text.live.now (here c.args.held.now c.args.tally.now c.args.words.now) (here c.loop-at.held c.loop-at.tally c.loop-at.words) c.loop-at.at c.loop-at.invariant c.index-text-at.result (omega arith) c.in_err-statement.ensures.exceeds)

pub block-loop-at-preserved : goal.block-loop-at-preserved
block-loop-at-preserved t c = walk_goes c.args.r.now (block_of c.args.text.statements.now) c.args.text.live.now (here c.args.held.now c.args.tally.now c.args.words.now) (here c.loop-at.held c.loop-at.tally c.loop-at.words) c.loop-at.at c.loop-at.invariant c.index-text-at.result (omega arith) _ refl c.in_ok-statement.ensures.runs

pub block-returns-clause-runs : goal.block-returns-clause-runs
block-returns-clause-runs t c = walk_end c.args.r.now (block_of c.args.text.statements.now) c.args.text.live.now (here c.args.held.now c.args.tally.now c.args.words.now) (here c.loop-at.held c.loop-at.tally c.loop-at.words) c.loop-at.at c.loop-at.invariant (omega arith)

pub choose-returns-in_err-z-clause-exceeds : goal.choose-returns-in_err-z-clause-exceeds
choose-returns-in_err-z-clause-exceeds t c = on_err c.from_residual.result (if_stops_first c.args.r.now (expr_of c.args.e.now) (block_of c.args.s.statements.now) (block_of c.args.t.statements.now) (here c.args.held.now c.args.tally.now c.args.words.now) c.in_err-z.ensures.exceeds)

pub choose-block-requires : goal.choose-block-requires
choose-block-requires t c = let d = c.decreases in (omega (arith, d), (c.in_ok-z.ensures.runs.running, (c.requires.fits.1, c.requires.first)))

pub choose-block-requires-else-z-ne0 : goal.choose-block-requires-else-z-ne0
choose-block-requires-else-z-ne0 t c = let d = c.decreases in (omega (arith, d), (c.in_ok-z.ensures.runs.running, (c.requires.fits.2, c.requires.second)))

pub choose-returns-then-z-ne0-clause-runs : goal.choose-returns-then-z-ne0-clause-runs
choose-returns-then-z-ne0-clause-runs t c = on_ok_weaker c.block.result (λ h. if_goes c.args.r.now (expr_of c.args.e.now) (block_of c.args.s.statements.now) (block_of c.args.t.statements.now) (here c.args.held.now c.args.tally.now c.args.words.now) (block_of c.args.s.statements.now) c.in_ok-z.z c.in_ok-z.ensures.runs
    (picks_yes c.args.r.now (block_of c.args.s.statements.now) (block_of c.args.t.statements.now) c.in_ok-z.z (λ e. c.if-z-ne0.true (zero_in c.in_ok-z.z e))) h) c.block.ensures.runs

pub choose-returns-then-z-ne0-clause-exceeds : goal.choose-returns-then-z-ne0-clause-exceeds
choose-returns-then-z-ne0-clause-exceeds t c = on_err_weaker c.block.result (λ h. if_stops c.args.r.now (expr_of c.args.e.now) (block_of c.args.s.statements.now) (block_of c.args.t.statements.now) (here c.args.held.now c.args.tally.now c.args.words.now) (block_of c.args.s.statements.now) c.in_ok-z.z c.in_ok-z.ensures.runs
    (picks_yes c.args.r.now (block_of c.args.s.statements.now) (block_of c.args.t.statements.now) c.in_ok-z.z (λ e. c.if-z-ne0.true (zero_in c.in_ok-z.z e))) h) c.block.ensures.exceeds

pub choose-returns-else-z-ne0-clause-runs : goal.choose-returns-else-z-ne0-clause-runs
choose-returns-else-z-ne0-clause-runs t c = on_ok_weaker c.block-else-z-ne0.result (λ h. if_goes c.args.r.now (expr_of c.args.e.now) (block_of c.args.s.statements.now) (block_of c.args.t.statements.now) (here c.args.held.now c.args.tally.now c.args.words.now) (block_of c.args.t.statements.now) c.in_ok-z.z c.in_ok-z.ensures.runs
    (picks_no c.args.r.now (block_of c.args.s.statements.now) (block_of c.args.t.statements.now) c.in_ok-z.z (zero_of c.in_ok-z.z (search rules) c.if-z-ne0.false)) h) c.block-else-z-ne0.ensures.runs

pub choose-returns-else-z-ne0-clause-exceeds : goal.choose-returns-else-z-ne0-clause-exceeds
choose-returns-else-z-ne0-clause-exceeds t c = on_err_weaker c.block-else-z-ne0.result (λ h. if_stops c.args.r.now (expr_of c.args.e.now) (block_of c.args.s.statements.now) (block_of c.args.t.statements.now) (here c.args.held.now c.args.tally.now c.args.words.now) (block_of c.args.t.statements.now) c.in_ok-z.z c.in_ok-z.ensures.runs
    (picks_no c.args.r.now (block_of c.args.s.statements.now) (block_of c.args.t.statements.now) c.in_ok-z.z (zero_of c.in_ok-z.z (search rules) c.if-z-ne0.false)) h) c.block-else-z-ne0.ensures.exceeds

pub rounds-loop-init : goal.rounds-loop-init
rounds-loop-init t c = leads_start c.args.r.now (λ n is. While (expr_of c.args.e.now) n (block_of c.args.text.statements.now) ∷ is) c.args.n (c.args.n - 0) (omega arith) (here c.args.held.now c.args.tally.now c.args.words.now) c.requires.running

pub rounds-value_of-requires-clause-running : goal.rounds-value_of-requires-clause-running
rounds-value_of-requires-clause-running t c = c.loop.invariant.running

pub rounds-returns-in_err-z-clause-exceeds : goal.rounds-returns-in_err-z-clause-exceeds
rounds-returns-in_err-z-clause-exceeds t c = on_err c.from_residual.result (round_stops_first c.args.r.now (λ is. While (expr_of c.args.e.now) c.args.n (block_of c.args.text.statements.now) ∷ is) (expr_of c.args.e.now) (block_of c.args.text.statements.now) (here c.args.held.now c.args.tally.now c.args.words.now) (here c.loop.held c.loop.tally c.loop.words) (c.args.n - c.loop.counter) (c.args.n - (c.loop.counter + 1)) (omega (arith, c.loop-test.true)) c.loop.invariant c.in_err-z.ensures.exceeds)

pub rounds-returns-then-z-eq0-clause-runs : goal.rounds-returns-then-z-eq0-clause-runs
rounds-returns-then-z-eq0-clause-runs t c = round_ends c.args.r.now (λ is. While (expr_of c.args.e.now) c.args.n (block_of c.args.text.statements.now) ∷ is) (expr_of c.args.e.now) (block_of c.args.text.statements.now) (here c.args.held.now c.args.tally.now c.args.words.now) (here c.loop.held c.loop.tally c.loop.words) (c.args.n - c.loop.counter) (c.args.n - (c.loop.counter + 1)) (omega (arith, c.loop-test.true)) c.in_ok-z.z c.loop.invariant c.in_ok-z.ensures.runs (zero_of c.in_ok-z.z (search rules) c.if-z-eq0.true)

pub rounds-returns-in_err-walk-clause-exceeds : goal.rounds-returns-in_err-walk-clause-exceeds
rounds-returns-in_err-walk-clause-exceeds t c = on_err c.from_residual-in_err-walk.result (round_stops c.args.r.now (λ is. While (expr_of c.args.e.now) c.args.n (block_of c.args.text.statements.now) ∷ is) (expr_of c.args.e.now) (block_of c.args.text.statements.now) (here c.args.held.now c.args.tally.now c.args.words.now) (here c.loop.held c.loop.tally c.loop.words)
    (here c.loop.held c.value_of.new.tally c.value_of.new.words) (c.args.n - c.loop.counter) (c.args.n - (c.loop.counter + 1)) (omega (arith, c.loop-test.true)) c.in_ok-z.z c.loop.invariant c.in_ok-z.ensures.runs (λ e. c.if-z-eq0.false (zero_in c.in_ok-z.z e)) c.in_err-walk.ensures.full)

pub rounds-block-requires : goal.rounds-block-requires
rounds-block-requires t c = let d = c.decreases in (omega (arith, d), (c.in_ok-z.ensures.runs.running, (c.requires.fits.1, c.requires.table)))

pub rounds-returns-in_err-block-clause-exceeds : goal.rounds-returns-in_err-block-clause-exceeds
rounds-returns-in_err-block-clause-exceeds t c = on_err c.from_residual-in_err-block.result (round_stops_then c.args.r.now (λ is. While (expr_of c.args.e.now) c.args.n (block_of c.args.text.statements.now) ∷ is) (expr_of c.args.e.now) (block_of c.args.text.statements.now) (here c.args.held.now c.args.tally.now c.args.words.now) (here c.loop.held c.loop.tally c.loop.words)
    (here c.loop.held c.value_of.new.tally c.value_of.new.words) (c.args.n - c.loop.counter) (c.args.n - (c.loop.counter + 1)) (omega (arith, c.loop-test.true)) c.in_ok-z.z c.loop.invariant c.in_ok-z.ensures.runs (λ e. c.if-z-eq0.false (zero_in c.in_ok-z.z e)) c.in_ok-walk.ensures.ok c.in_err-block.ensures.exceeds)

pub rounds-loop-preserved : goal.rounds-loop-preserved
rounds-loop-preserved t c = round_goes c.args.r.now (λ is. While (expr_of c.args.e.now) c.args.n (block_of c.args.text.statements.now) ∷ is) (expr_of c.args.e.now) (block_of c.args.text.statements.now) (here c.args.held.now c.args.tally.now c.args.words.now) (here c.loop.held c.loop.tally c.loop.words)
    (here c.loop.held c.value_of.new.tally c.value_of.new.words) (c.args.n - c.loop.counter) (c.args.n - (c.loop.counter + 1)) (omega (arith, c.loop-test.true)) c.in_ok-z.z c.loop.invariant c.in_ok-z.ensures.runs (λ e. c.if-z-eq0.false (zero_in c.in_ok-z.z e)) c.in_ok-walk.ensures.ok c.in_ok-block.ensures.runs

pub rounds-returns-clause-runs : goal.rounds-returns-clause-runs
rounds-returns-clause-runs t c = rounds_end c.args.r.now (λ is. While (expr_of c.args.e.now) c.args.n (block_of c.args.text.statements.now) ∷ is) (expr_of c.args.e.now) (block_of c.args.text.statements.now) (here c.args.held.now c.args.tally.now c.args.words.now) (here c.loop.held c.loop.tally c.loop.words) (c.args.n - c.loop.counter) (omega (arith, c.loop-test.false)) c.loop.invariant

pub turns-loop-init : goal.turns-loop-init
turns-loop-init t c = leads_start c.args.r.now (λ n is. Repeat n (block_of c.args.text.statements.now) ∷ is) c.args.n (c.args.n - 0) (omega arith) (here c.args.held.now c.args.tally.now c.args.words.now) c.requires.running

pub turns-returns-in_err-walk-clause-exceeds : goal.turns-returns-in_err-walk-clause-exceeds
turns-returns-in_err-walk-clause-exceeds t c = on_err c.from_residual.result (turn_stops c.args.r.now (λ is. Repeat c.args.n (block_of c.args.text.statements.now) ∷ is) (block_of c.args.text.statements.now) (here c.args.held.now c.args.tally.now c.args.words.now) (here c.loop.held c.loop.tally c.loop.words) (c.args.n - c.loop.counter) (c.args.n - (c.loop.counter + 1)) (omega (arith, c.loop-test.true)) c.loop.invariant c.in_err-walk.ensures.full)

pub turns-block-requires : goal.turns-block-requires
turns-block-requires t c = let d = c.decreases in (omega (arith, d), (c.loop.invariant.running, (c.requires.fits, c.requires.table)))

pub turns-returns-in_err-block-clause-exceeds : goal.turns-returns-in_err-block-clause-exceeds
turns-returns-in_err-block-clause-exceeds t c = on_err c.from_residual-in_err-block.result (turn_stops_then c.args.r.now (λ is. Repeat c.args.n (block_of c.args.text.statements.now) ∷ is) (block_of c.args.text.statements.now) (here c.args.held.now c.args.tally.now c.args.words.now) (here c.loop.held c.loop.tally c.loop.words) (c.args.n - c.loop.counter) (c.args.n - (c.loop.counter + 1)) (omega (arith, c.loop-test.true)) c.loop.invariant c.in_ok-walk.ensures.ok c.in_err-block.ensures.exceeds)

pub turns-loop-preserved : goal.turns-loop-preserved
turns-loop-preserved t c = turn_goes c.args.r.now (λ is. Repeat c.args.n (block_of c.args.text.statements.now) ∷ is) (block_of c.args.text.statements.now) (here c.args.held.now c.args.tally.now c.args.words.now) (here c.loop.held c.loop.tally c.loop.words) (c.args.n - c.loop.counter) (c.args.n - (c.loop.counter + 1)) (omega (arith, c.loop-test.true)) c.loop.invariant c.in_ok-walk.ensures.ok c.in_ok-block.ensures.runs

pub turns-returns-clause-runs : goal.turns-returns-clause-runs
turns-returns-clause-runs t c = turns_end c.args.r.now (λ is. Repeat c.args.n (block_of c.args.text.statements.now) ∷ is) (block_of c.args.text.statements.now) (here c.args.held.now c.args.tally.now c.args.words.now) (here c.loop.held c.loop.tally c.loop.words) (c.args.n - c.loop.counter) (omega (arith, c.loop-test.false)) c.loop.invariant

pub statement-choose-requires : goal.statement-choose-requires
statement-choose-requires t c =
    let e = ap stmt_size (ap stmt_of c.in-If.is ∙ text-If c.in-If.e c.in-If.s c.in-If.t) in
    let a = ap (λ ss. block_size (block_of ss)) c.as_slice.ensures in
    let b = ap (λ ss. block_size (block_of ss)) c.as_slice-in-If.ensures in
    let d = c.decreases in
    (omega (arith, d, e, a, b), (c.requires.running, (rw (c.as_slice.ensures, c.as_slice-in-If.ensures) (subst (Fine (c.args.r.now.kernel.now ∷ []) 0 c.args.r.now.kernel.now) (ap stmt_of c.in-If.is ∙ text-If c.in-If.e c.in-If.s c.in-If.t) c.requires.fits), (record { live = c.requires.tables.first ∙ (ap first_of (ap stmt_of c.in-If.is ∙ text-If c.in-If.e c.in-If.s c.in-If.t) ∙ sym (ap (λ ss. table_of (block_of ss)) c.as_slice.ensures)) }, record { live = c.requires.tables.second ∙ (ap second_of (ap stmt_of c.in-If.is ∙ text-If c.in-If.e c.in-If.s c.in-If.t) ∙ sym (ap (λ ss. table_of (block_of ss)) c.as_slice-in-If.ensures)) }))))

pub statement-rounds-requires : goal.statement-rounds-requires
statement-rounds-requires t c =
    let e = ap stmt_size (ap stmt_of c.in-While.is ∙ text-While c.in-While.e c.in-While.n c.in-While.s) in
    let a = ap (λ ss. block_size (block_of ss)) c.as_slice-in-While.ensures in
    let d = c.decreases in
    (omega (arith, d, e, a), (c.requires.running, (rw c.as_slice-in-While.ensures (subst (Fine (c.args.r.now.kernel.now ∷ []) 0 c.args.r.now.kernel.now) (ap stmt_of c.in-While.is ∙ text-While c.in-While.e c.in-While.n c.in-While.s) c.requires.fits), record { live = c.requires.tables.first ∙ (ap first_of (ap stmt_of c.in-While.is ∙ text-While c.in-While.e c.in-While.n c.in-While.s) ∙ sym (ap (λ ss. table_of (block_of ss)) c.as_slice-in-While.ensures)) })))

pub statement-turns-requires : goal.statement-turns-requires
statement-turns-requires t c =
    let e = ap stmt_size (ap stmt_of c.in-Repeat.is ∙ text-Repeat c.in-Repeat.n c.in-Repeat.s) in
    let a = ap (λ ss. block_size (block_of ss)) c.as_slice-in-Repeat.ensures in
    let d = c.decreases in
    (omega (arith, d, e, a), (c.requires.running, (rw c.as_slice-in-Repeat.ensures (subst (Fine (c.args.r.now.kernel.now ∷ []) 0 c.args.r.now.kernel.now) (ap stmt_of c.in-Repeat.is ∙ text-Repeat c.in-Repeat.n c.in-Repeat.s) c.requires.fits), record { live = c.requires.tables.first ∙ (ap first_of (ap stmt_of c.in-Repeat.is ∙ text-Repeat c.in-Repeat.n c.in-Repeat.s) ∙ sym (ap (λ ss. table_of (block_of ss)) c.as_slice-in-Repeat.ensures)) })))

pub statement-returns-in-If-clause-runs : goal.statement-returns-in-If-clause-runs
statement-returns-in-If-clause-runs t c = subst (λ x. OnOk c.choose.result (Runs c.args.r.now (stmt_items x) (λ st. st) (λ st. st) (here c.args.held.now c.args.tally.now c.args.words.now) (here c.choose.new.held c.choose.new.tally c.choose.new.words)))
    (ap (λ ss. Stmt.If (expr_of c.in-If.e) (block_of ss) (block_of c.as_slice-in-If.result.now)) c.as_slice.ensures ∙ (ap (λ ss. Stmt.If (expr_of c.in-If.e) (block_of c.in-If.s) (block_of ss)) c.as_slice-in-If.ensures ∙ sym (ap stmt_of c.in-If.is ∙ text-If c.in-If.e c.in-If.s c.in-If.t))) c.choose.ensures.runs

pub statement-returns-in-If-clause-exceeds : goal.statement-returns-in-If-clause-exceeds
statement-returns-in-If-clause-exceeds t c = subst (λ x. OnErr c.choose.result (Exceeds c.args.r.now (stmt_items x) (λ st. st) (here c.args.held.now c.args.tally.now c.args.words.now) c.choose.new.words))
    (ap (λ ss. Stmt.If (expr_of c.in-If.e) (block_of ss) (block_of c.as_slice-in-If.result.now)) c.as_slice.ensures ∙ (ap (λ ss. Stmt.If (expr_of c.in-If.e) (block_of c.in-If.s) (block_of ss)) c.as_slice-in-If.ensures ∙ sym (ap stmt_of c.in-If.is ∙ text-If c.in-If.e c.in-If.s c.in-If.t))) c.choose.ensures.exceeds

pub statement-returns-in-While-clause-runs : goal.statement-returns-in-While-clause-runs
statement-returns-in-While-clause-runs t c = subst (λ x. OnOk c.rounds.result (Runs c.args.r.now (stmt_items x) (λ st. st) (λ st. st) (here c.args.held.now c.args.tally.now c.args.words.now) (here c.rounds.new.held c.rounds.new.tally c.rounds.new.words)))
    (ap (λ ss. Stmt.While (expr_of c.in-While.e) c.in-While.n (block_of ss)) c.as_slice-in-While.ensures ∙ sym (ap stmt_of c.in-While.is ∙ text-While c.in-While.e c.in-While.n c.in-While.s)) c.rounds.ensures.runs

pub statement-returns-in-While-clause-exceeds : goal.statement-returns-in-While-clause-exceeds
statement-returns-in-While-clause-exceeds t c = subst (λ x. OnErr c.rounds.result (Exceeds c.args.r.now (stmt_items x) (λ st. st) (here c.args.held.now c.args.tally.now c.args.words.now) c.rounds.new.words))
    (ap (λ ss. Stmt.While (expr_of c.in-While.e) c.in-While.n (block_of ss)) c.as_slice-in-While.ensures ∙ sym (ap stmt_of c.in-While.is ∙ text-While c.in-While.e c.in-While.n c.in-While.s)) c.rounds.ensures.exceeds

pub statement-returns-in-Repeat-clause-runs : goal.statement-returns-in-Repeat-clause-runs
statement-returns-in-Repeat-clause-runs t c = subst (λ x. OnOk c.turns.result (Runs c.args.r.now (stmt_items x) (λ st. st) (λ st. st) (here c.args.held.now c.args.tally.now c.args.words.now) (here c.turns.new.held c.turns.new.tally c.turns.new.words)))
    (ap (λ ss. Stmt.Repeat c.in-Repeat.n (block_of ss)) c.as_slice-in-Repeat.ensures ∙ sym (ap stmt_of c.in-Repeat.is ∙ text-Repeat c.in-Repeat.n c.in-Repeat.s)) c.turns.ensures.runs

pub statement-returns-in-Repeat-clause-exceeds : goal.statement-returns-in-Repeat-clause-exceeds
statement-returns-in-Repeat-clause-exceeds t c = subst (λ x. OnErr c.turns.result (Exceeds c.args.r.now (stmt_items x) (λ st. st) (here c.args.held.now c.args.tally.now c.args.words.now) c.turns.new.words))
    (ap (λ ss. Stmt.Repeat c.in-Repeat.n (block_of ss)) c.as_slice-in-Repeat.ensures ∙ sym (ap stmt_of c.in-Repeat.is ∙ text-Repeat c.in-Repeat.n c.in-Repeat.s)) c.turns.ensures.exceeds
