use Rattle.std.proofs.Common.{◌≡◌, ◌≤◌, ◌+◌, ℕ, ap, subst, sym, ◌∙◌, arith}
use Rattle.std.proofs.lemmas.Bool.{eqb-true}
use Rattle.rely_num.specs.Rounded.{mul_lo}
use Rattle.chisel_debit.specs.Debits.{low}
use Rattle.chisel_debit.specs.declared.reliability.TheConstants.{MAX_DEBIT}
use Rattle.chisel_debit.proofs.DebitLaws.{budget_past, budget_reached, budget_stuck}
use Rattle.chisel_debit.proofs.Powers.{low_more}
use Rattle.chisel_debit.proofs.bound.BudgetWalkWalk.answer.Goals as goal

-- a bound of nothing
pub returns-then-bound-eq0-clause-exact : goal.returns-then-bound-eq0-clause-exact
returns-then-bound-eq0-clause-exact c = budget_past c.args.self.now.base c.args.bound (omega (arith, c.if-bound-eq0.true))

pub returns-then-get-bound-clause-exact : goal.returns-then-get-bound-clause-exact
returns-then-get-bound-clause-exact c =
    let base = c.args.self.now.base in
    let walk = c.loop-steps.self in
    let kept = c.loop-steps.invariant in
    let at : walk.power ≡ low base c.loop-steps.steps = walk.reached ∙ (λ i. low (kept.base i) (kept.steps i)) in
    let next : c.mul_lo-next.result ≡ low base (c.loop-steps.steps + 1) = c.mul_lo-next.ensures.value ∙ (λ i. mul_lo (at i) (kept.base i)) ∙ sym (low_more base c.loop-steps.steps) in
    let counted = walk.counted in
    budget_reached base c.args.bound c.loop-steps.steps (record {
      counted = omega (arith, kept.steps);
      keeps = kept.ahead;
      below = omega (arith, next, c.get.ensures.value, c.if-get-bound.true);
      small = omega (arith, next, c.mul_lo-next.ensures.bound);
    })

-- the powers stay
pub returns-then-eq-clause-exact : goal.returns-then-eq-clause-exact
returns-then-eq-clause-exact c =
    let base = c.args.self.now.base in
    let walk = c.loop-steps.self in
    let kept = c.loop-steps.invariant in
    let at : walk.power ≡ low base c.loop-steps.steps = walk.reached ∙ (λ i. low (kept.base i) (kept.steps i)) in
    let same : c.mul_lo-next.result ≡ walk.power = eqb-true _ _ (sym c.eq.ensures ∙ c.if-eq.true) in
    let next : c.mul_lo-next.result ≡ mul_lo (low base c.loop-steps.steps) base = c.mul_lo-next.ensures.value ∙ (λ i. mul_lo (at i) (kept.base i)) in
    let counted = walk.counted in
    budget_stuck base c.args.bound c.loop-steps.steps (omega (arith, kept.steps))
    (omega (arith, at, same, c.get.ensures.value, c.if-get-bound.false)) (sym next ∙ same ∙ at)

pub invariant_of-self : goal.invariant_of-self
invariant_of-self c =
    let walk = c.loop-steps.self in
    let d = c.loop-steps.steps in
    record {
      reached = c.mul_lo-next.ensures.value ∙ ap (λ x. mul_lo x walk.base) (walk.reached ∙ ap (low walk.base) c.loop-steps.invariant.steps) ∙ sym (low_more walk.base d);
      counted = omega arith;
    }

pub returns-clause-exact : goal.returns-clause-exact
returns-clause-exact c =
    let base = c.args.self.now.base in
    let kept = c.loop-steps.invariant in
    let counted = c.loop-steps.self.counted in
    let last : c.loop-steps.steps ≡ MAX_DEBIT = omega (arith, kept.steps) in
    budget_past base c.args.bound (subst (λ (d : ℕ). c.args.bound ≤ low base d) last (kept.ahead (omega arith)))
