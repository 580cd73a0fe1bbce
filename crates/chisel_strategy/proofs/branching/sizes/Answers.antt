use Rattle.std.proofs.Common.{sym, ◌∙◌, ◌++◌, ◌∷◌, []}
use Rattle.chisel_bound.proofs.Lists.{listed_none, listed_more}
use Rattle.chisel_strategy.specs.Branching.{size}
use Rattle.chisel_strategy.proofs.branching.sizes.Goals as goal

pub loop-d-init : goal.loop-d-init
loop-d-init c = c.in_ok-sizes.ensures.items ∙ sym (listed_none (size c.args.t.now c.args.branch))

pub loop-d-preserved : goal.loop-d-preserved
loop-d-preserved c =
    c.in_ok-push.ensures.items
    ∙ (λ k. c.loop-d.invariant k ++ c.size.ensures k ∷ [])
    ∙ sym (listed_more c.loop-d.d (size c.args.t.now c.args.branch))
