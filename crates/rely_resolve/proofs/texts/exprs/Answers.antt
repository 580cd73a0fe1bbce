use Rattle.std.proofs.Common.{map, drop, ap, refl, ◌∙◌, ◌+◌}
use Rattle.rely_tree.specs.Shape.{decl_shape, expr_shape}
use Rattle.rely_resolve.specs.Faults.{first_with, expr_faults, exprs_faults}
use Rattle.rely_resolve.proofs.Firsts.{first_step}
use Rattle.rely_resolve.proofs.texts.exprs.Goals as goal

pub loop-e-preserved : goal.loop-e-preserved
loop-e-preserved c =
    let h = c.args.scope.now.h.now in
    let vs = map decl_shape c.args.scope.now.vars.now.list.items in
    ap (λ o. first_with o (exprs_faults h vs (map expr_shape (drop (c.loop-e.e-index + 1) c.args.es.now)))) c.expr-first.ensures
    ∙ first_step (λ e. expr_faults h vs (expr_shape e)) (λ es. exprs_faults h vs (map expr_shape es)) (λ x xs. refl)
    c.args.es.now c.loop-e.e-index c.e-item.result c.loop-e-test.true c.e-item.is c.loop-e.first
    ∙ c.loop-e.invariant
