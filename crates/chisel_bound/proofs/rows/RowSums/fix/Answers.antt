use Rattle.std.proofs.Common.{arith, ap, ◌∙◌, ◌≢◌, refl, length, drop}
use Rattle.std.proofs.lemmas.Bool.{eqb-true}
use Rattle.std.proofs.lemmas.List.{take_at}
use Rattle.chisel_table.specs.declared.partial.TheConstants.{UNFIXED}
use Rattle.chisel_table.specs.Partials.{slot}
use Rattle.chisel_bound.proofs.Putting.{same_size, can_add, filled_sums}
use Rattle.chisel_bound.proofs.Debits.{column_read}
use Rattle.chisel_bound.proofs.rows.RowSums.fix.Goals as goal

pub add-requires-clause-size : goal.add-requires-clause-size
add-requires-clause-size c =
    let f = c.requires.differences in
    let t = c.args.differences.now.table.now in
    let r = c.args.self.now in
    let d = c.args.decision in
    let s = c.args.option in
    let is = c.as_slice.ensures ∙ column_read t c.args.differences.now.columns.items d s c.index.result.now f.table f.columns c.requires.decision c.requires.option c.index.ensures in
    ap length c.deref_mut.ensures.value ∙ same_size t r d f.table c.requires.decision c.requires.sums s c.as_slice.result.now is

pub add-requires-clause-fits : goal.add-requires-clause-fits
add-requires-clause-fits c =
    let f = c.requires.differences in
    let t = c.args.differences.now.table.now in
    let r = c.args.self.now in
    let d = c.args.decision in
    let s = c.args.option in
    let few = f.table.few_options d c.requires.decision in
    let option = c.requires.option in
    let ne : s ≢ UNFIXED = omega arith in
    let free = eqb-true (slot r.partial d) UNFIXED c.requires.unfixed in
    let is = c.as_slice.ensures ∙ column_read t c.args.differences.now.columns.items d s c.index.result.now f.table f.columns c.requires.decision c.requires.option c.index.ensures in
    rw c.deref_mut.ensures.value (can_add t r d f.table c.requires.decision c.requires.sums s free c.requires.option ne c.as_slice.result.now is)

pub returns-clause-sums : goal.returns-clause-sums
returns-clause-sums c =
    let f = c.requires.differences in
    let t = c.args.differences.now.table.now in
    let r = c.args.self.now in
    let d = c.args.decision in
    let s = c.args.option in
    let few = f.table.few_options d c.requires.decision in
    let option = c.requires.option in
    let ne : s ≢ UNFIXED = omega arith in
    let free = eqb-true (slot r.partial d) UNFIXED c.requires.unfixed in
    let is = c.as_slice.ensures ∙ column_read t c.args.differences.now.columns.items d s c.index.result.now f.table f.columns c.requires.decision c.requires.option c.index.ensures in
    filled_sums t r d f.table c.requires.decision c.requires.sums s free c.requires.option ne c.as_slice.result.now is _ refl
    (rw (take_at c.add.new.excesses (drop (length c.add.new.excesses) r.excesses.items) r.excesses.len (omega (arith, c.add.auto.excesses, c.deref_mut.ensures.len))) (rw c.deref_mut.ensures.value at c.add.ensures))
