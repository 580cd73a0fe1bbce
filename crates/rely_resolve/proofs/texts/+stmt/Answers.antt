use Rattle.std.proofs.Common.{map, drop, ap, refl, ◌∙◌, ◌+◌}
use Rattle.rely_tree.specs.Shape.{decl_shape, func_shape, stmt_shape, block_shape}
use Rattle.rely_resolve.specs.Faults.{first_with, stmt_faults, block_faults}
use Rattle.rely_resolve.proofs.Firsts.{first_step}
use Rattle.rely_resolve.proofs.texts.+stmt.Goals as goal

pub block-loop-s-preserved : goal.block-loop-s-preserved
block-loop-s-preserved t c =
    let h = c.args.scope.now.h.now in
    let earlier = map func_shape c.args.scope.now.earlier.now in
    let vs = map decl_shape c.args.scope.now.vars.now.list.items in
    ap (λ o. first_with o (block_faults h earlier vs (block_shape (drop (c.loop-s.s-index + 1) c.args.ss.now)))) c.stmt-first.ensures
    ∙ first_step (λ s. stmt_faults h earlier vs (stmt_shape s)) (λ ss. block_faults h earlier vs (block_shape ss)) (λ x xs. refl)
    c.args.ss.now c.loop-s.s-index c.s-item.result c.loop-s-test.true c.s-item.is c.loop-s.first
    ∙ c.loop-s.invariant
