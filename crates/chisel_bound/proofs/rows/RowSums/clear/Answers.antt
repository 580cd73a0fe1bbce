use Rattle.std.proofs.Common.{arith, ap, ◌∙◌, refl, length, drop}
use Rattle.std.proofs.lemmas.List.{take_at}
use Rattle.chisel_table.specs.declared.partial.TheConstants.{UNFIXED}
use Rattle.chisel_table.specs.Partials.{slot}
use Rattle.chisel_table.proofs.Sums.{differ}
use Rattle.chisel_bound.proofs.Putting.{same_size, can_take, cleared_sums}
use Rattle.chisel_bound.proofs.Debits.{column_read}
use Rattle.chisel_bound.proofs.rows.RowSums.clear.Goals as goal

pub take-requires-clause-size : goal.take-requires-clause-size
take-requires-clause-size c =
    let f = c.requires.differences in
    let t = c.args.differences.now.table.now in
    let r = c.args.self.now in
    let d = c.args.decision in
    let ne = differ (slot r.partial d) UNFIXED c.requires.fixed in
    let m = c.requires.sums.partial.in_range d c.requires.decision ne in
    let is = c.as_slice.ensures ∙ column_read t c.args.differences.now.columns.items d (slot r.partial d) c.index.result.now f.table f.columns c.requires.decision m c.index.ensures in
    ap length c.deref_mut.ensures.value ∙ same_size t r d f.table c.requires.decision c.requires.sums (slot r.partial d) c.as_slice.result.now is

pub take-requires-clause-fits : goal.take-requires-clause-fits
take-requires-clause-fits c =
    let f = c.requires.differences in
    let t = c.args.differences.now.table.now in
    let r = c.args.self.now in
    let d = c.args.decision in
    let ne = differ (slot r.partial d) UNFIXED c.requires.fixed in
    let m = c.requires.sums.partial.in_range d c.requires.decision ne in
    let is = c.as_slice.ensures ∙ column_read t c.args.differences.now.columns.items d (slot r.partial d) c.index.result.now f.table f.columns c.requires.decision m c.index.ensures in
    rw c.deref_mut.ensures.value (can_take t r d f.table c.requires.decision c.requires.sums ne c.as_slice.result.now is)

pub returns-clause-sums : goal.returns-clause-sums
returns-clause-sums c =
    let f = c.requires.differences in
    let t = c.args.differences.now.table.now in
    let r = c.args.self.now in
    let d = c.args.decision in
    let ne = differ (slot r.partial d) UNFIXED c.requires.fixed in
    let m = c.requires.sums.partial.in_range d c.requires.decision ne in
    let is = c.as_slice.ensures ∙ column_read t c.args.differences.now.columns.items d (slot r.partial d) c.index.result.now f.table f.columns c.requires.decision m c.index.ensures in
    cleared_sums t r d f.table c.requires.decision c.requires.sums ne c.as_slice.result.now is _ refl
    (rw (take_at c.take.new.excesses (drop (length c.take.new.excesses) r.excesses.items) r.excesses.len (omega (arith, c.take.auto.excesses, c.deref_mut.ensures.len))) (rw c.deref_mut.ensures.value at c.take.ensures))
