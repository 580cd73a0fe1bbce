use Rattle.std.proofs.Common.{arith, sym, ◌≡◌, ◌∙◌, ◌<◌, true}
use Rattle.chisel_table.specs.Closings.{row_closes}
use Rattle.chisel_table.specs.Tables.{row_count}
use Rattle.chisel_table.proofs.Sums.{first_is, first_nowhere}
use Rattle.chisel_bound.proofs.closing.first_row.Goals as goal

pub returns-then-row_closes : goal.returns-then-row_closes
returns-then-row_closes c =
    let l : c.loop-i.i < row_count c.args.t.now = omega arith in
    let h : row_closes c.args.t.now c.args.p.now c.loop-i.i ≡ true = sym c.row_closes.ensures ∙ c.if-row_closes.true in
    sym (first_is (row_count c.args.t.now) (row_closes c.args.t.now c.args.p.now) c.loop-i.i l h c.loop-i.invariant)

pub returns : goal.returns
returns c = sym (first_nowhere (row_count c.args.t.now) (row_closes c.args.t.now c.args.p.now)
    (λ k l. c.loop-i.invariant k (omega arith)))
