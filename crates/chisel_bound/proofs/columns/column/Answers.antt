use Rattle.std.proofs.Common.{arith, sym, ap, ◌∙◌, ◌≡◌, ◌++◌, ◌∷◌, [], ◌-◌, List, ℕ, length}
use Rattle.std.specs.Prelude.{slice_index, slice_index_or}
use Rattle.chisel_table.specs.Sums.{least_to}
use Rattle.chisel_table.specs.Tables.{option_count, row_at, spent_at}
use Rattle.chisel_table.proofs.Sums.{least_below}
use Rattle.chisel_bound.specs.Columns.{above_least}
use Rattle.chisel_bound.proofs.Lists.{listed_none, listed_more}
use Rattle.chisel_bound.proofs.columns.column.Goals as goal

pub loop-i-init : goal.loop-i-init
loop-i-init c = c.in_ok-column.ensures.items ∙ sym (listed_none (above_least c.args.t.now c.args.decision c.args.option))

pub overflow_sub-debits : goal.overflow_sub-debits
overflow_sub-debits c =
    let debits = c.debits_of-debits.result.now in
    let n : length debits ≡ option_count c.args.t.now c.args.decision =
    ap length c.debits_of-debits.ensures ∙ c.requires.table.shapes c.loop-i.i c.args.decision (omega arith) c.requires.decision in
    let b = least_below (length debits) (slice_index debits) c.args.option (omega (arith, n)) in
    omega (arith, b, c.least.ensures)

pub loop-i-preserved : goal.loop-i-preserved
loop-i-preserved c =
    let t = c.args.t.now in
    let i = c.loop-i.i in
    let d = c.args.decision in
    let o = c.args.option in
    let debits = c.debits_of-debits.result.now in
    let e : debits ≡ slice_index_or (row_at t i).spent d [] = c.debits_of-debits.ensures in
    let n = c.requires.table.shapes i d (omega arith) c.requires.decision in
    let x = ap (λ y. slice_index debits o - y) c.least.ensures
    ∙ ap (λ (xs : List ℕ). slice_index xs o - least_to (length xs) (slice_index xs)) e
    ∙ ap (λ m. spent_at t i d o - least_to m (spent_at t i d)) n in
    c.in_ok-push.ensures.items ∙ (λ k. c.loop-i.invariant k ++ x k ∷ []) ∙ sym (listed_more i (above_least t d o))
