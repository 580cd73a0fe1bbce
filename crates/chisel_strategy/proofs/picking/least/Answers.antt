use Rattle.std.proofs.Common.{arith, sym, ap, ◌∙◌, ◌+◌, ◌-◌, ◌≡◌, ◌<◌, int_lt, length, pos}
use Rattle.std.proofs.lemmas.List.{get_or-map}
use Rattle.chisel_search.specs.Rules.{value_at}
use Rattle.chisel_strategy.specs.Picking.{least_to}
use Rattle.chisel_strategy.proofs.Places.{least_one, least_next, least_stays, least_inside}
use Rattle.chisel_strategy.proofs.picking.least.Goals.{then-is_less, else-is_less}
use Rattle.chisel_strategy.proofs.picking.least.Goals as goal

pub loop-k-init : goal.loop-k-init
loop-k-init c = sym (least_one c.args.parts.now)

pub offset_bounds-parts-least : goal.offset_bounds-parts-least
offset_bounds-parts-least c =
    let a = least_inside c.args.parts.now (c.loop-k.k - 1) in
    omega (arith, a, c.loop-k.invariant, c.loop-k.auto.k)

pub bounds-parts-least : goal.bounds-parts-least
bounds-parts-least c =
    let a = least_inside c.args.parts.now (c.loop-k.k - 1) in
    omega (arith, a, c.loop-k.invariant, c.loop-k.auto.k)

-- what is asked of the next part
asked : (c : goal.Joined-is_less) → c.is_less.result ≡ int_lt (value_at c.args.parts.now (c.loop-k.k - 1 + 1)) (value_at c.args.parts.now (least_to c.args.parts.now (c.loop-k.k - 1)))
asked c =
    let parts = c.args.parts.now in
    let n = least_inside parts (c.loop-k.k - 1) in
    let k : c.loop-k.k - 1 + 1 ≡ c.loop-k.k = omega (arith, c.loop-k.auto.k) in
    let l : c.loop-k.least < length parts = omega (arith, n, c.loop-k.invariant, c.loop-k.auto.k) in
    let a = sym (get_or-map (λ p. p.value) parts c.loop-k.k _ (pos 0) (omega arith)) in
    let b = sym (get_or-map (λ p. p.value) parts c.loop-k.least _ (pos 0) l) in
    c.is_less.ensures
    ∙ (λ j. int_lt (a j) (b j))
    ∙ (λ j. int_lt (value_at parts (sym k j)) (value_at parts (c.loop-k.invariant j)))

pub loop-k-preserved : goal.loop-k-preserved
loop-k-preserved c =
    let parts = c.args.parts.now in
    let k : c.loop-k.k - 1 + 1 ≡ c.loop-k.k = omega (arith, c.loop-k.auto.k) in
    let e : c.loop-k.k + 1 - 1 ≡ c.loop-k.k - 1 + 1 = omega (arith, c.loop-k.auto.k) in
    elim c.if-is_less.branch [
      | then-is_less w ↦ w.least-is ∙ sym k ∙ sym (least_next parts (c.loop-k.k - 1) (sym (asked c) ∙ w.if-is_less.true)) ∙ ap (least_to parts) (sym e)
      | else-is_less w ↦ w.least-is ∙ c.loop-k.invariant ∙ sym (least_stays parts (c.loop-k.k - 1) (sym (asked c) ∙ w.if-is_less.false)) ∙ ap (least_to parts) (sym e)
    ]

pub returns-clause-inside : goal.returns-clause-inside
returns-clause-inside c =
    let a = least_inside c.args.parts.now (c.loop-k.k - 1) in
    omega (arith, a, c.loop-k.invariant, c.loop-k.auto.k)
