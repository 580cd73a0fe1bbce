use Rattle.std.proofs.Common.{map, drop, ap, refl, ◌∙◌, ◌+◌, []}
use Rattle.rely_tree.specs.declared.expr.Ident.{Ident}
use Rattle.rely_tree.specs.Shape.{decl_shape, ident_shape}
use Rattle.rely_resolve.specs.Faults.{first_with, needs_faults, param_faults}
use Rattle.rely_resolve.proofs.Firsts.{first_at}
use Rattle.rely_resolve.proofs.declarations.needs.Goals as goal

-- a name that stands nowhere
nobody : Ident
nobody = record { text = record { ref_ptr = (0, 0); now = [] }; span = record { from = 0; to = 0 } }

pub loop-need-preserved : goal.loop-need-preserved
unfolding nobody
loop-need-preserved c =
    let params = map decl_shape c.args.params.now.list.items in
    ap (λ o. first_with o (needs_faults params (map ident_shape (drop (c.loop-need.need-index + 1) c.args.needs.now)))) c.param-first.ensures
    ∙ first_at (λ i. param_faults params (ident_shape i)) (λ is. needs_faults params (map ident_shape is)) (λ x xs. refl)
    c.args.needs.now c.loop-need.need-index nobody c.loop-need-test.true c.loop-need.first
    ∙ c.loop-need.invariant
