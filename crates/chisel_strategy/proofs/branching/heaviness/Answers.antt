use Rattle.std.proofs.Common.{arith, sym, ap, ◌∙◌, List, ℕ, length}
use Rattle.std.specs.Prelude.{slice_index}
use Rattle.chisel_table.specs.Sums.{sum_to}
use Rattle.chisel_table.specs.Tables.{option_count, spent_at}
use Rattle.chisel_table.proofs.Sums.{sum_none, sum_more}
use Rattle.chisel_strategy.proofs.branching.heaviness.Goals as goal

pub total-sum-requires : goal.total-sum-requires
total-sum-requires c =
    let s = c.requires.table.shapes c.loop-i.i c.args.decision (omega arith) c.requires.decision in
    let f = c.requires.table.few_options c.args.decision c.requires.decision in
    let e = ap length c.debits_of.ensures in
    omega (arith, s, f, e)

pub loop-i-init : goal.loop-i-init
loop-i-init c = record { value = sym (sum_none _); bound = omega arith }

pub loop-i-preserved : goal.loop-i-preserved
loop-i-preserved c =
    let t = c.args.t.now in
    let d = c.args.decision in
    let m = sum_more c.loop-i.i (λ i. sum_to (option_count t d) (spent_at t i d)) in
    let s = c.requires.table.shapes c.loop-i.i d (omega arith) c.requires.decision in
    let f = c.requires.table.few_options d c.requires.decision in
    let l = ap length c.debits_of.ensures in
    let e = c.total-sum.ensures.value ∙ ap (λ (xs : List ℕ). sum_to (length xs) (slice_index xs)) c.debits_of.ensures ∙ ap (λ n. sum_to n (spent_at t c.loop-i.i d)) s in
    record {
      value = omega (arith, m, e, c.loop-i.invariant.value);
      bound = omega (arith, s, f, l, c.total-sum.ensures.bound, c.loop-i.invariant.bound);
    }
