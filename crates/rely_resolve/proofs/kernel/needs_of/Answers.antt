use Rattle.std.proofs.Common.{map, drop, ap, sym, ◌∙◌, ◌+◌, []}
use Rattle.rely_num.specs.Sets.{only, union}
use Rattle.rely_tree.specs.declared.expr.Ident.{Ident}
use Rattle.rely_tree.specs.Shape.{decl_shape, ident_shape}
use Rattle.rely_resolve.specs.Kernels.{needs_of}
use Rattle.rely_resolve.specs.Names.{names}
use Rattle.rely_resolve.proofs.Firsts.{rest_at}
use Rattle.rely_resolve.proofs.kernel.needs_of.Goals as goal

-- a name that stands nowhere
nobody : Ident
nobody = record { text = record { ref_ptr = (0, 0); now = [] }; span = record { from = 0; to = 0 } }

pub loop-need-preserved : goal.loop-need-preserved
unfolding nobody
loop-need-preserved c =
    let ps = names (map decl_shape c.args.params.now.list.items) in
    ap (λ b. needs_of ps b (map ident_shape (drop (c.loop-need.need-index + 1) c.args.needs.now)))
    (c.with-set.ensures ∙ ap (λ n. union c.loop-need.set.bits (only n)) c.number.ensures.number)
    ∙ sym (ap (λ is. needs_of ps c.loop-need.set.bits (map ident_shape is)) (rest_at c.args.needs.now c.loop-need.need-index nobody c.loop-need-test.true))
    ∙ c.loop-need.invariant
