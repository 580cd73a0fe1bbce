use Rattle.std.proofs.Common.{◌≡◌, ◌-◌, ◌++◌, [], if◌then◌else◌, length, OnOk, refl, sym, ap, subst, ◌∙◌, arith}
use Rattle.std.proofs.lemmas.Option.{slice_get_read}
use Rattle.rely_kernel.specs.Text.{block_of, expr_of, stmt_of}
use Rattle.rely_kernel.proofs.TextLemmas.{text-If, text-While, text-Repeat}
use Rattle.rely_machine.specs.Table.{entries, table_of, with_blocks}
use Rattle.rely_machine.proofs.Sizes.{block_size, some_size, stmt_size, stmt_smaller}
use Rattle.rely_machine.proofs.Tables.{both_put, if_entries, no_choice, repeat_entries, while_entries}
use Rattle.rely_machine.proofs.live.+table.Goals as goal

pub put-put_choice-requires : goal.put-put_choice-requires
put-put_choice-requires t c =
    let e = ap stmt_size (ap stmt_of c.in-If.is ∙ text-If c.in-If.e c.in-If.s c.in-If.t) in
    let a = ap (λ ss. block_size (block_of ss)) c.as_slice.ensures in
    let b = ap (λ ss. block_size (block_of ss)) c.as_slice-in-If.ensures in
    let d = c.decreases in
    (omega (arith, d, e, a, b), tt)

pub put-put_loop-requires : goal.put-put_loop-requires
put-put_loop-requires t c =
    let e = ap stmt_size (ap stmt_of c.in-While.is ∙ text-While c.in-While.e c.in-While.n c.in-While.s) in
    let a = ap (λ ss. block_size (block_of ss)) c.as_slice-in-While.ensures in
    let d = c.decreases in
    (omega (arith, d, e, a), tt)

pub put-put_loop-requires-in-Repeat : goal.put-put_loop-requires-in-Repeat
put-put_loop-requires-in-Repeat t c =
    let e = ap stmt_size (ap stmt_of c.in-Repeat.is ∙ text-Repeat c.in-Repeat.n c.in-Repeat.s) in
    let a = ap (λ ss. block_size (block_of ss)) c.as_slice-in-Repeat.ensures in
    let d = c.decreases in
    (omega (arith, d, e, a), tt)

pub put_block-put-requires : goal.put_block-put-requires
put_block-put-requires t c =
    let smaller = stmt_smaller c.args.text.now c.loop-s.s-index c.s-item.result (slice_get_read c.args.text.now (length c.args.text.now) c.loop-s.s-index c.s-item.result refl (omega arith) c.s-item.is) in
    let d = c.decreases in
    (omega (arith, d, smaller), tt)

pub put_entry-put_block-requires : goal.put_entry-put_block-requires
put_entry-put_block-requires t c = let d = c.decreases in let b = some_size (block_of c.args.t.now) in (omega (arith, d, b), tt)

pub put_entry-put_block-requires-2 : goal.put_entry-put_block-requires-2
put_entry-put_block-requires-2 t c = let d = c.decreases in let b = some_size (block_of c.args.s.now) in (omega (arith, d, b), tt)

pub put_choice-returns-in-Read : goal.put_choice-returns-in-Read
put_choice-returns-in-Read t c =
    subst (λ es. OnOk c.put_entry.result (entries c.put_entry.new.live.items ≡ entries c.args.live.now.items ++ es)) (sym (no_choice c.args.e.now (table_of (block_of c.args.s.now)) (table_of (block_of c.args.t.now))
    (with_blocks (stmt_of c.args.what.now) (table_of (block_of c.args.s.now)) (table_of (block_of c.args.t.now))) c.in-Read.is)) c.put_entry.ensures

pub put-returns-in-If : goal.put-returns-in-If
put-returns-in-If t c = subst (λ es. OnOk c.put_choice.result (entries c.put_choice.new.live.items ≡ entries c.args.live.now.items ++ es))
    (if_entries (stmt_of c.args.what.now) (expr_of c.in-If.e) c.in-If.s c.in-If.t c.as_slice.result.now c.as_slice-in-If.result.now (ap stmt_of c.in-If.is ∙ text-If c.in-If.e c.in-If.s c.in-If.t) c.as_slice.ensures c.as_slice-in-If.ensures) c.put_choice.ensures

pub put-returns-in-While : goal.put-returns-in-While
put-returns-in-While t c = subst (λ es. OnOk c.put_loop.result (entries c.put_loop.new.live.items ≡ entries c.args.live.now.items ++ es))
    (while_entries (stmt_of c.args.what.now) (expr_of c.in-While.e) c.in-While.n c.in-While.s c.as_slice-in-While.result.now (ap stmt_of c.in-While.is ∙ text-While c.in-While.e c.in-While.n c.in-While.s) c.as_slice-in-While.ensures)
    (subst (λ i. OnOk c.put_loop.result (entries c.put_loop.new.live.items ≡ entries c.args.live.now.items ++ (if i then [] else with_blocks (stmt_of c.args.what.now) (table_of (block_of c.as_slice-in-While.result.now)) []))) c.is_idle_while.ensures c.put_loop.ensures)

pub put-returns-in-Repeat : goal.put-returns-in-Repeat
put-returns-in-Repeat t c = subst (λ es. OnOk c.put_loop-in-Repeat.result (entries c.put_loop-in-Repeat.new.live.items ≡ entries c.args.live.now.items ++ es))
    (repeat_entries (stmt_of c.args.what.now) c.in-Repeat.n c.in-Repeat.s c.as_slice-in-Repeat.result.now (ap stmt_of c.in-Repeat.is ∙ text-Repeat c.in-Repeat.n c.in-Repeat.s) c.as_slice-in-Repeat.ensures) c.put_loop-in-Repeat.ensures

pub put_entry-returns : goal.put_entry-returns
put_entry-returns t c =
    both_put c.args.live.now.items c.push.new.self.items c.put_block.new.live.items c.put_block-2.new.live.items (table_of (block_of c.args.s.now)) (table_of (block_of c.args.t.now)) (record { what = c.args.what; first = 0; second = 0 })
    (record { what = c.args.what; first = c.len.result - c.len-at.result - 1; second = c.len-2.result - c.len-at.result - 1 - (c.len.result - c.len-at.result - 1) }) c.len-at.result c.len.result c.len-2.result
    c.in_ok-push.ensures.items c.in_ok-put_block.ensures c.in_ok-put_block-2.ensures
    (let o = c.args.live.now.ok in omega (arith, o, c.len-at.ensures)) (let o = c.put_block.new.live.ok in omega (arith, o, c.len.ensures)) (let o = c.put_block-2.new.live.ok in omega (arith, o, c.len-2.ensures)) refl
