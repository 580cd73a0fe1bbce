use Rattle.std.proofs.Common.{◌∙◌, ◌++◌, ◌∷◌, [], sym}
use Rattle.chisel_bound.specs.Kept.{best_options}
use Rattle.chisel_bound.proofs.Lists.{listed_more, listed_none}
use Rattle.chisel_cert.specs.Valid.{restated_row}
use Rattle.chisel_search.proofs.certify.restated_rows.Goals as goal

pub loop-i-init : goal.loop-i-init
loop-i-init c = c.new-rows.ensures.items ∙ sym (listed_none (restated_row c.args.t.now (best_options c.args.best)))

pub loop-i-preserved : goal.loop-i-preserved
loop-i-preserved c =
    c.in_ok-push.ensures.items ∙ (λ i. c.loop-i.invariant i ++ c.restated.ensures i ∷ [])
    ∙ sym (listed_more c.loop-i.i (restated_row c.args.t.now (best_options c.args.best)))
