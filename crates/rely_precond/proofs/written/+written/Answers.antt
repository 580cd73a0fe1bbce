use Rattle.std.proofs.Common.{◌≡◌, ◌+◌, ◌*◌, ◌<◌, ◌^◌, ◌++◌, ℕ, List, length, sym, ap, subst, ◌∙◌, arith}
use Rattle.rely_num.specs.Sets.{union}
use Rattle.rely_kernel.specs.declared.kernel.St.{St}
use Rattle.rely_kernel.specs.Paths.{all_writes}
use Rattle.rely_kernel.specs.Text.{Block, Stmt, stmt_of, block_of}
use Rattle.rely_precond.specs.declared.written.Written.{Written}
use Rattle.rely_precond.specs.Written.{all_sets, first_block, second_block, assigns}
use Rattle.rely_precond.proofs.Marks.{size, sizes, writes_is, first_below, second_below, first_smaller, second_smaller, one_smaller, added_more, statement_added}
use Rattle.rely_precond.proofs.Sets.{one_fits, one_more, none_left, SoFar}
use Rattle.rely_precond.proofs.written.+written.Goals as goal

pub add_block-add_statement-requires : goal.add_block-add_statement-requires
add_block-add_statement-requires t c =
    let body : List St = c.args.body.now in
    let i : ℕ = c.loop-statement.statement-index in
    let within : i < length body = omega (arith, c.loop-statement-test.true) in
    let less = one_smaller body i c.statement-item.result within c.statement-item.is in
    let falls : 2 * size (stmt_of c.statement-item.result.what) + 1 < t = omega (arith, less, c.decreases) in
    (falls, one_fits body i c.statement-item.result c.loop-statement.set.bits within c.statement-item.is c.loop-statement.invariant.set c.requires)

pub add_block-loop-statement-preserved : goal.add_block-loop-statement-preserved
add_block-loop-statement-preserved t c =
    let body : List St = c.args.body.now in
    let i : ℕ = c.loop-statement.statement-index in
    let s : St = c.statement-item.result in
    let within : i < length body = omega (arith, c.loop-statement-test.true) in
    record {
      set = subst (λ (n : ℕ). SoFar body (i + 1) n) (sym c.union-set.ensures)
          (one_more body i s c.loop-statement.set.bits c.in_ok-add_statement.field-0.bits within c.statement-item.is c.loop-statement.invariant.set c.in_ok-add_statement.ensures.set);
      sets = added_more body i s c.args.sets.now.items c.loop-statement.sets.items c.add_statement.new.sets.items within c.statement-item.is c.loop-statement.invariant.sets c.in_ok-add_statement.ensures.sets;
    }

pub add_block-returns-clause-set : goal.add_block-returns-clause-set
add_block-returns-clause-set t c = none_left c.args.body.now c.loop-statement.statement-index c.loop-statement.set.bits (omega (arith, c.loop-statement-test.false)) c.loop-statement.invariant.set

pub add_statement-add_block-requires : goal.add_statement-add_block-requires
add_statement-add_block-requires t c =
    let s : Stmt = stmt_of c.args.what.now in
    let less = first_smaller s (block_of c.first_block.result.now) c.first_block.ensures in
    let falls : 2 * sizes (block_of c.first_block.result.now) < t = omega (arith, less, c.decreases) in
    (falls, subst (λ (x : Block). all_writes x < 2 ^ 64) (sym c.first_block.ensures) (first_below s c.requires))

pub add_statement-add_block-requires-2 : goal.add_statement-add_block-requires-2
add_statement-add_block-requires-2 t c =
    let s : Stmt = stmt_of c.args.what.now in
    let less = second_smaller s (block_of c.second_block.result.now) c.second_block.ensures in
    let falls : 2 * sizes (block_of c.second_block.result.now) < t = omega (arith, less, c.decreases) in
    (falls, subst (λ (x : Block). all_writes x < 2 ^ 64) (sym c.second_block.ensures) (second_below s c.requires))

pub add_statement-returns-clause-set : goal.add_statement-returns-clause-set
add_statement-returns-clause-set t c =
    let s : Stmt = stmt_of c.args.what.now in
    c.union-set.ensures
    ∙ ap (λ n. union n c.in_ok-second.second.bits) (c.union.ensures ∙ ap (λ n. union n c.in_ok-first.first.bits) c.assigned.ensures ∙ ap (union (assigns s)) (c.in_ok-first.ensures.set ∙ ap all_writes c.first_block.ensures))
    ∙ ap (union (union (assigns s) (all_writes (first_block s)))) (c.in_ok-second.ensures.set ∙ ap all_writes c.second_block.ensures)
    ∙ writes_is s

pub add_statement-returns-clause-sets : goal.add_statement-returns-clause-sets
add_statement-returns-clause-sets t c =
    let s : Stmt = stmt_of c.args.what.now in
    let old : List Written = c.args.sets.now.items in
    let middle : List Written = c.add_block.new.sets.items in
    let after : List Written = c.add_block-2.new.sets.items in
    let at_old : c.len-start.result ≡ length old = let o = c.args.sets.now.ok in omega (arith, o, c.len-start.ensures) in
    let at_middle : c.len-middle.result ≡ length middle = let o = c.add_block.new.sets.ok in omega (arith, o, c.len-middle.ensures) in
    let at_after : c.len.result ≡ length after = let o = c.add_block-2.new.sets.ok in omega (arith, o, c.len.ensures) in
    let first : middle ≡ old ++ all_sets (first_block s) = ◌∙◌ {A = List Written} c.in_ok-first.ensures.sets (ap (λ x. old ++ all_sets x) c.first_block.ensures) in
    let second : after ≡ middle ++ all_sets (second_block s) = ◌∙◌ {A = List Written} c.in_ok-second.ensures.sets (ap (λ x. middle ++ all_sets x) c.second_block.ensures) in
    ◌∙◌ {A = List Written} c.in_ok-push.ensures.items
    (statement_added s old middle after first second
    c.union-set.result.bits c.len-start.result c.len-middle.result c.len.result (add_statement-returns-clause-set t c) at_old at_middle at_after)
