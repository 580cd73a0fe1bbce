use Rattle.std.proofs.Common.{rules, sym, ◌∙◌, ◌++◌, ◌∷◌, [], ◌*◌}
use Rattle.std.proofs.lemmas.Int.{to_z-of_z}
use mir.Syntax.{w128}
use mir.Val.{SFits}
use Rattle.chisel_table.specs.declared.lagrangian.TheConstants.{ENERGY_WEIGHT}
use Rattle.chisel_bound.specs.Ascent.{first_step, step_for}
use Rattle.chisel_bound.proofs.Lists.{listed_none, listed_more}
use Rattle.chisel_bound.proofs.climb.first_steps.Goals as goal

pub loop-i-init : goal.loop-i-init
loop-i-init c = c.in_ok-steps.ensures.items ∙ sym (listed_none (first_step c.args.t.now))

pub loop-i-preserved : goal.loop-i-preserved
loop-i-preserved c =
    let f : SFits w128 c.budget_at.result = search rules in
    let b = to_z-of_z w128 c.budget_at.result f ∙ c.budget_at.ensures in
    let s = c.step_for.ensures ∙ (λ k. step_for (ENERGY_WEIGHT * c.span.ensures.value k) (b k)) in
    c.in_ok-push.ensures.items
    ∙ (λ k. c.loop-i.invariant k ++ s k ∷ [])
    ∙ sym (listed_more c.loop-i.i (first_step c.args.t.now))
