use Rattle.std.proofs.Common.{arith, rules, sym, ap, ◌∙◌, ◌≡◌, true, length, int_lt, pos}
use Rattle.std.proofs.lemmas.Int.{to_z-of_z}
use mir.Syntax.{w128}
use mir.Val.{SFits}
use Rattle.chisel_table.proofs.Sums.{first_is, first_nowhere}
use Rattle.chisel_bound.specs.Rows.{excess_at}
use Rattle.chisel_bound.proofs.keeping.first_row_above.Goals as goal

pub returns-then-excesses-i-gt0 : goal.returns-then-excesses-i-gt0
returns-then-excesses-i-gt0 c =
    let es = c.args.excesses.now in
    let f : SFits w128 (excess_at es c.loop-i.i) = search rules in
    let h : int_lt (pos 0) (excess_at es c.loop-i.i) ≡ true =
    ap (int_lt (pos 0)) (sym (to_z-of_z w128 (excess_at es c.loop-i.i) f)) ∙ c.if-excesses-i-gt0.true in
    sym (first_is (length es) (λ i. int_lt (pos 0) (excess_at es i)) c.loop-i.i (omega arith) h c.loop-i.invariant)

pub returns : goal.returns
returns c =
    sym (first_nowhere (length c.args.excesses.now) (λ i. int_lt (pos 0) (excess_at c.args.excesses.now i)) (λ k l. c.loop-i.invariant k (omega arith)))
