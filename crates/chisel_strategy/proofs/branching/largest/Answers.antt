use Rattle.std.proofs.Common.{arith, sym, ap, ◌∙◌, ◌≡◌, Some}
use Rattle.std.specs.Prelude.{slice_index, unwrap_or}
use Rattle.chisel_table.specs.Partials.{is_unfixed}
use Rattle.chisel_table.specs.Tables.{decision_count}
use Rattle.chisel_strategy.specs.Branching.{larger, larger_if, largest, largest_to}
use Rattle.chisel_strategy.proofs.Decisions.{largest_none, largest_more, is_largest}
use Rattle.chisel_strategy.proofs.branching.largest.Goals.{then-is_unfixed, else-is_unfixed}
use Rattle.chisel_strategy.proofs.branching.largest.Goals as goal

pub loop-d-init : goal.loop-d-init
loop-d-init c = sym (largest_none (is_unfixed c.args.p.now) (slice_index c.args.sizes.now))

pub loop-d-preserved : goal.loop-d-preserved
loop-d-preserved c =
    let size = slice_index c.args.sizes.now in
    let more = largest_more c.loop-d.d (is_unfixed c.args.p.now) size in
    elim c.if-is_unfixed.branch [
      | then-is_unfixed w ↦
          let free = sym c.is_unfixed.ensures ∙ w.if-is_unfixed.true in
          w.found-is ∙ ap (λ k. Some k) w.larger.ensures ∙ ap (λ k. Some (larger size k c.loop-d.d)) c.loop-d.invariant
          ∙ sym (more ∙ ap (λ b. larger_if b size (largest_to c.loop-d.d (is_unfixed c.args.p.now) size) c.loop-d.d) free)
      | else-is_unfixed w ↦
          let free = sym c.is_unfixed.ensures ∙ w.if-is_unfixed.false in
          w.found-is ∙ c.loop-d.invariant
          ∙ sym (more ∙ ap (λ b. larger_if b size (largest_to c.loop-d.d (is_unfixed c.args.p.now) size) c.loop-d.d) free)
    ]

-- what is answered is the decision of the definition
answer : (c : goal.After-unwrap_or) → c.unwrap_or.result ≡ largest c.args.t.now (slice_index c.args.sizes.now) c.args.p.now
answer c =
    let done : c.loop-d.d ≡ decision_count c.args.t.now = omega (arith, c.loop-d-test.false, c.loop-d.auto.d-end, c.decision_count-d-end.ensures) in
    let e = ap (λ n. largest_to n (is_unfixed c.args.p.now) (slice_index c.args.sizes.now)) done in
    c.unwrap_or.ensures ∙ ap (λ k. unwrap_or k 0) (c.loop-d.invariant ∙ e)

pub returns-clause-unfixed : goal.returns-clause-unfixed
returns-clause-unfixed c = rw (answer c) (is_largest c.args.t.now (slice_index c.args.sizes.now) c.args.p.now c.requires).unfixed

pub overflow_cast-result : goal.overflow_cast-result
overflow_cast-result c =
    let u = returns-clause-unfixed c in
    omega (arith, u.inside, c.requires.table.few_decisions)
