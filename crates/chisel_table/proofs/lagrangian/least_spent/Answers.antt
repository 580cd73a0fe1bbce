use Rattle.std.proofs.Common.{arith, sym, ◌∙◌}
use Rattle.chisel_table.specs.Tables.{spent_at}
use Rattle.chisel_table.proofs.Sums.{least_one, least_more}
use Rattle.chisel_table.proofs.lagrangian.least_spent.Goals as goal

pub loop-option-init : goal.loop-option-init
loop-option-init c = record {
  value = c.spent_at-least.ensures ∙ sym (least_one (spent_at c.args.t.now c.args.row c.args.decision));
  bound =
      let b = c.requires.table.debits c.args.row c.args.decision 0 c.requires.row c.requires.decision (c.requires.table.some_options c.args.decision c.requires.decision) in
      omega (arith, b, c.spent_at-least.ensures);
}

pub loop-option-preserved : goal.loop-option-preserved
loop-option-preserved c =
    let m = least_more c.loop-option.option (spent_at c.args.t.now c.args.row c.args.decision) (omega arith) in
    let u = c.loop-option.invariant.value in
    let b = c.loop-option.invariant.bound in
    record { value = omega (arith, m, u); bound = omega arith }
