use Rattle.std.proofs.Common.{arith, rules, sym, ap, ◌∙◌, ◌≡◌, ◌++◌, ◌∷◌, []}
use Rattle.std.proofs.lemmas.Int.{to_z-of_z}
use mir.Syntax.{w128}
use mir.Val.{SFits}
use Rattle.chisel_table.specs.Lagrangian.{row_excess}
use Rattle.chisel_table.specs.Partials.{nothing_fixed}
use Rattle.chisel_table.specs.Sums.{list_to}
use Rattle.chisel_table.specs.Tables.{row_count}
use Rattle.chisel_table.proofs.Partials.{nothing_partial}
use Rattle.chisel_bound.proofs.Lists.{listed_none, listed_more}
use Rattle.chisel_bound.proofs.Putting.{start_sums}
use Rattle.chisel_bound.proofs.rows.RowSums.start.Goals as goal

pub loop-i-init : goal.loop-i-init
loop-i-init c = c.in_ok-excesses.ensures.items ∙ sym (listed_none (λ i. row_excess c.args.t.now i (nothing_fixed c.args.t.now)))

pub row_excess-requires-clause-partial : goal.row_excess-requires-clause-partial
row_excess-requires-clause-partial c = rw c.nothing_fixed-partial.ensures (nothing_partial c.args.t.now c.requires.few_decisions)

pub loop-i-preserved : goal.loop-i-preserved
loop-i-preserved c =
    let t = c.args.t.now in
    let i = c.loop-i.i in
    let f : SFits w128 c.row_excess.result = search rules in
    let x = to_z-of_z w128 c.row_excess.result f ∙ c.row_excess.ensures ∙ ap (row_excess t i) c.nothing_fixed-partial.ensures in
    c.in_ok-push.ensures.items ∙ (λ k. c.loop-i.invariant k ++ x k ∷ []) ∙ sym (listed_more i (λ i. row_excess t i (nothing_fixed t)))

pub returns-clause-sums : goal.returns-clause-sums
returns-clause-sums c =
    let t = c.args.t.now in
    let n : c.loop-i.i ≡ row_count t = omega arith in
    start_sums t (record { partial = c.nothing_fixed-partial.result; excesses = c.loop-i.excesses }) c.requires c.nothing_fixed-partial.ensures
    (c.loop-i.invariant ∙ ap (λ m. list_to m (λ i. row_excess t i (nothing_fixed t))) n)
