use Rattle.std.proofs.Common.{rules, ◌≡◌, ◌<◌, ◌+◌, ◌++◌, ℕ, List, map, length, drop, get_or, ap, sym, ◌∙◌, arith}
use Rattle.std.specs.Prelude.{flat_map}
use Rattle.std.specs.List.{zip}
use Rattle.std.proofs.lemmas.List.{append_assoc, length-map}
use Rattle.rely_hard.specs.declared.hardware.Hardware.{Hardware}
use Rattle.rely_num.specs.declared.conj.Conj.{Conj}
use Rattle.rely_kernel.specs.declared.kernel.Claim.{Claim}
use Rattle.rely_kernel.specs.declared.kernel.Kernel.{Kernel}
use Rattle.rely_predicate.specs.Predicates.{Conjuncts}
use Rattle.chisel_table.specs.declared.table.Row.{Row}
use Rattle.chisel_debit.specs.Debits.{budget}
use Rattle.chisel_problem.specs.Problem.{rows_within}
use Rattle.chisel_problem.proofs.Lists.{flat_front, flat_zipped}
use Rattle.chisel_problem.proofs.Predicates.{read_more}
use Rattle.chisel_problem.proofs.rows.rows.Goals as goal

-- the rows of one claim, within its budget
abbrev rows_by : Hardware → Kernel → ℕ × Conjuncts → List Row
rows_by h k x = rows_within h k x.0 x.1.conjs

pub loop-i-init : goal.loop-i-init
loop-i-init c =
    let debits = c.args.debits.now in
    let preds = c.args.preds.now in
    let rows = rows_by debits.h.now debits.k.now in
    let allowed = λ (claim : Claim). budget debits.h.now.base claim.bound in
    let budgets : c.as_slice-budget-items.result.now ≡ map allowed debits.k.now.claims = c.as_slice-budget-items.ensures ∙ c.in_ok-budgets.ensures in
    record {
      long = c.requires.predicates.one_a_claim ∙ sym (ap length budgets ∙ length-map debits.k.now.claims allowed);
      rows = ap (λ rs. rs ++ flat_map rows (zip c.as_slice-budget-items.result.now preds)) c.new-rows.ensures.items
          ∙ ap (λ bs. flat_map rows (zip bs preds)) budgets
          ∙ flat_zipped (λ b p. rows (b, p)) allowed debits.k.now.claims preds;
      read = tt;
    }

pub loop-i-preserved : goal.loop-i-preserved
loop-i-preserved c =
    let debits = c.args.debits.now in
    let preds = c.args.preds.now in
    let rows = rows_by debits.h.now debits.k.now in
    let budgets = c.as_slice-budget-items.result.now in
    let i = c.loop-i.i in
    let before = c.loop-i.rows.items in
    let pred = c.index-preds-i.result in
    let here = λ (cs : List Conj). rows_within debits.h.now debits.k.now (get_or budgets i 0) cs in
    let rest = flat_map rows (zip (drop (i + 1) budgets) (drop (i + 1) preds)) in
    let conjs = c.conjs.ensures.value ∙ ap (λ p. p.conjs) c.index-preds-i.is in
    let inside : i < length budgets = omega arith in
    let front = flat_front rows budgets preds i 0 pred inside (omega (arith, c.loop-i.invariant.long)) in
    record {
      long = c.loop-i.invariant.long;
      rows = ap (λ rs. rs ++ rest) (c.in_ok-add_rows.ensures ∙ ap (λ cs. before ++ here cs) conjs)
          ∙ append_assoc before (here (get_or preds i pred).conjs) rest
          ∙ ap (λ rs. before ++ rs) (sym front) ∙ c.loop-i.invariant.rows;
      read = search (rules, read_more);
    }
