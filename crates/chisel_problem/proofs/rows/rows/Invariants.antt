use Rattle.std.proofs.Common.{◌≡◌, ◌++◌, drop, length, map, take}
use Rattle.std.specs.Prelude.{flat_map}
use Rattle.std.specs.List.{AllByRecursion, zip}
use Rattle.rely_predicate.specs.Predicates.{IsPredicate}
use Rattle.chisel_problem.specs.Problem.{row_within, rows_of}
use Rattle.chisel_problem.proofs.rows.rows.Given as goal

abbrev pub invariant-loop-i : goal.invariant-loop-i
invariant-loop-i l = record {
  long : length l.fn.preds ≡ length l.budget-items;
  rows : l.rows.items ++ flat_map (λ x. map (λ c. row_within l.fn.debits.h.now l.fn.debits.k.now x.0 c.counts) x.1.conjs) (zip (drop l.i l.budget-items) (drop l.i l.fn.preds))
      ≡ rows_of l.fn.debits.h.now l.fn.debits.k.now l.fn.preds;
  read : AllByRecursion IsPredicate (take l.i l.fn.preds);
}
