use Rattle.std.proofs.Common.{arith, rules, sym, ap, ◌∙◌, ◌≡◌, true, length, int_lt}
use Rattle.std.proofs.lemmas.Int.{to_z-of_z}
use mir.Syntax.{w128}
use mir.Val.{SFits}
use Rattle.chisel_table.proofs.Sums.{first_is, first_nowhere}
use Rattle.chisel_bound.specs.BoundsAt.{bounds_at}
use Rattle.chisel_bound.proofs.keeping.first_value_above.Goals as goal

pub returns-then-bounds-j : goal.returns-then-bounds-j
returns-then-bounds-j c =
    let bs = c.args.bounds.now in
    let f : SFits w128 (bounds_at bs c.loop-j.j).value = search rules in
    let limit = to_z-of_z w128 c.args.limit c.ranges.limit in
    let h : int_lt c.args.limit (bounds_at bs c.loop-j.j).value ≡ true =
    sym (λ k. int_lt (limit k) (to_z-of_z w128 (bounds_at bs c.loop-j.j).value f k)) ∙ c.if-bounds-j.true in
    sym (first_is (length bs) (λ j. int_lt c.args.limit (bounds_at bs j).value) c.loop-j.j (omega arith) h
    (λ k l. sym (ap (λ x. int_lt x (bounds_at bs k).value) limit) ∙ c.loop-j.invariant k l))

pub returns : goal.returns
returns c =
    let limit = to_z-of_z w128 c.args.limit c.ranges.limit in
    sym (first_nowhere (length c.args.bounds.now) (λ j. int_lt c.args.limit (bounds_at c.args.bounds.now j).value)
    (λ k l. sym (ap (λ x. int_lt x (bounds_at c.args.bounds.now k).value) limit) ∙ c.loop-j.invariant k (omega arith)))
