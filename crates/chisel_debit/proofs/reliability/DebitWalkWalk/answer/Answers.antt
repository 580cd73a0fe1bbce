use Rattle.std.proofs.Common.{◌≡◌, ◌<◌, ap, sym, ◌∙◌, arith}
use Rattle.std.proofs.lemmas.Bool.{eqb-true}
use Rattle.rely_num.specs.Rounded.{mul_hi}
use Rattle.chisel_debit.specs.Debits.{up}
use Rattle.chisel_debit.proofs.DebitLaws.{debit_reached, debit_past, debit_stuck}
use Rattle.chisel_debit.proofs.Powers.{up_more}
use Rattle.chisel_debit.proofs.reliability.DebitWalkWalk.answer.Goals as goal
use Rattle.chisel_debit.proofs.reliability.DebitWalkWalk.answer.Goals.{then-self-eq-MAX_DEBIT-via-then-self-eq-MAX_DEBIT, then-self-eq-MAX_DEBIT-via-else-self-eq-MAX_DEBIT+then-eq}

pub returns-then-self-eq-MAX_DEBIT-clause-exact : goal.returns-then-self-eq-MAX_DEBIT-clause-exact
returns-then-self-eq-MAX_DEBIT-clause-exact c =
    let base = c.args.self.now.base in
    let walk = c.loop-next.self in
    let at : walk.power ≡ up base walk.steps = walk.reached ∙ ap (λ b. up b walk.steps) c.loop-next.invariant.base in
    let here : c.args.right < up base walk.steps = omega (arith, at, c.get.ensures.value, c.loop-next-test.true) in
    elim c.then-self-eq-MAX_DEBIT.branch [
      | then-self-eq-MAX_DEBIT-via-then-self-eq-MAX_DEBIT w ↦ debit_past base c.args.right walk.steps w.if-self-eq-MAX_DEBIT.true c.loop-next.invariant.passed here
      | then-self-eq-MAX_DEBIT-via-else-self-eq-MAX_DEBIT+then-eq w ↦
          let same : c.mul_hi-next.result ≡ walk.power = eqb-true _ _ (sym w.eq.ensures ∙ w.if-eq.true) in
          let next : c.mul_hi-next.result ≡ mul_hi (up base walk.steps) base = c.mul_hi-next.ensures.value ∙ (λ i. mul_hi (at i) (c.loop-next.invariant.base i)) in
          debit_stuck base c.args.right walk.steps c.loop-next.invariant.passed here (sym next ∙ same ∙ at)
    ]

pub invariant_of-self : goal.invariant_of-self
invariant_of-self c =
    let walk = c.loop-next.self in
    let counted = walk.counted in
    record {
      reached = c.mul_hi-next.ensures.value ∙ ap (λ x. mul_hi x walk.base) walk.reached ∙ sym (up_more walk.base walk.steps);
      counted = omega arith;
    }

pub returns-clause-exact : goal.returns-clause-exact
returns-clause-exact c =
    let base = c.args.self.now.base in
    let walk = c.loop-next.self in
    let at : walk.power ≡ up base walk.steps = walk.reached ∙ ap (λ b. up b walk.steps) c.loop-next.invariant.base in
    let counted = walk.counted in
    debit_reached base c.args.right walk.steps counted c.loop-next.invariant.passed (omega (arith, at, c.get.ensures.value, c.loop-next-test.false))
