use Rattle.std.proofs.Common.{arith, rules, sym, ap, ◌∙◌, ◌≡◌, true, length, int_lt, pos}
use Rattle.std.proofs.lemmas.Int.{to_z-of_z}
use mir.Syntax.{w128}
use mir.Val.{SFits}
use Rattle.chisel_table.proofs.Sums.{first_is, first_nowhere}
use Rattle.chisel_bound.specs.BoundsAt.{bounds_at}
use Rattle.chisel_bound.proofs.keeping.first_excess_above.Goals as goal

pub returns-then-bounds-j-gt0 : goal.returns-then-bounds-j-gt0
returns-then-bounds-j-gt0 c =
    let bs = c.args.bounds.now in
    let f : SFits w128 (bounds_at bs c.loop-j.j).excess = search rules in
    let h : int_lt (pos 0) (bounds_at bs c.loop-j.j).excess ≡ true =
    ap (int_lt (pos 0)) (sym (to_z-of_z w128 (bounds_at bs c.loop-j.j).excess f)) ∙ c.if-bounds-j-gt0.true in
    sym (first_is (length bs) (λ j. int_lt (pos 0) (bounds_at bs j).excess) c.loop-j.j (omega arith) h c.loop-j.invariant)

pub returns : goal.returns
returns c =
    sym (first_nowhere (length c.args.bounds.now) (λ j. int_lt (pos 0) (bounds_at c.args.bounds.now j).excess) (λ k l. c.loop-j.invariant k (omega arith)))
