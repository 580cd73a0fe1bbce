-- The least choice of a table is the least choice of its kernel.
use Rattle.std.proofs.Common.{◌≡◌, ℕ, ◌<◌, ◌↔◌, List, Option, Some, None, sym, subst, ◌∙◌, arith}
use Rattle.std.specs.Prelude.{nat_lt}
use Rattle.std.specs.List.{AllByRecursion, AllZip}
use Rattle.std.proofs.lemmas.Bool.Decides.{nat_tests}
use mathlib.Core.Logic.{inl, inr}
use Rattle.rely_hard.specs.declared.hardware.Hardware.{Hardware}
use Rattle.rely_kernel.specs.declared.kernel.Linked.{Linked}
use Rattle.rely_kernel.specs.declared.setting.Store.{Store}
use Rattle.rely_kernel.specs.Choice.{setting_of}
use Rattle.rely_machine.specs.declared.outcome.Outcome.{Outcome}
use Rattle.rely_machine.specs.Cost.{IsCost}
use Rattle.rely_machine.specs.Run.{IsOutcome}
use Rattle.rely_machine.proofs.Determined.{one_cost}
use Rattle.rely_predicate.specs.Predicates.{Conjuncts}
use Rattle.chisel_table.specs.declared.table.Table.{Table}
use Rattle.chisel_table.specs.Choices.{IsChoice, Meets, before, energy}
use Rattle.chisel_table.specs.Least.{IsLeast}
use Rattle.chisel_table.proofs.Choices.{before_is, not_before}
use Rattle.chisel_table.proofs.Sums.{by_test}
use Rattle.chisel_problem.specs.Least.{IsAllowed, IsLeastChoice, IsLeastOf, KeepsBudgets, LeastOfTable}
use Rattle.chisel_problem.specs.Problem.{AreReady, table_of}
use Rattle.chisel_problem.specs.Promises.{AreTops, StaysWithin}
use Rattle.chisel_problem.proofs.Table.{choices_are, energy_is_cost, rows_are}
use Rattle.chisel_problem.proofs.Tops.{as_tops, each_counted, one_each}

module _ (h : Hardware) (l : Linked) (preds : List Conjuncts) (starts : List Store) (runs : List Outcome)
    (ready : AreReady h l) (tops : AreTops l.kernel preds) (outcomes : AllZip (IsOutcome l) starts runs) where
  abbrev t : Table
  t = table_of h l preds runs

  abbrev Costs : List ℕ → ℕ → Type 0
  Costs choice cost = IsCost h l (setting_of l.kernel choice) starts cost

  -- ---- what is allowed

  met : (choice : List ℕ) → IsChoice t choice → Meets t choice ↔ KeepsBudgets h l.kernel (setting_of l.kernel choice)
  met choice is =
      let rows = rows_are h l ready preds runs (one_each l.kernel l.kernel.claims preds tops) (each_counted l.kernel l.kernel.claims preds tops) choice is in
      let over = as_tops l.kernel (λ claim cs. AllByRecursion (StaysWithin h l.kernel (setting_of l.kernel choice) claim) cs) l.kernel.claims preds tops in
      (λ m. over.0 (rows.0 m), λ k. rows.1 (over.1 k))

  allowed_meets : (choice : List ℕ) → IsAllowed h l.kernel choice → IsChoice t choice × Meets t choice
  allowed_meets choice a = let is = (choices_are h l ready preds runs choice).1 a.is_choice in (is, (met choice is).1 a.keeps)

  meets_allowed : (choice : List ℕ) → IsChoice t choice → Meets t choice → IsAllowed h l.kernel choice
  meets_allowed choice is m = record { is_choice = (choices_are h l ready preds runs choice).0 is; keeps = (met choice is).0 m }

  -- ---- costs

  cost_is : (choice : List ℕ) → IsChoice t choice → Costs choice (energy t choice)
  cost_is choice is = energy_is_cost h l ready preds runs choice starts is outcomes

  energy_of : (choice : List ℕ) (cost : ℕ) → IsChoice t choice → Costs choice cost → energy t choice ≡ cost
  energy_of choice cost is costs = one_cost h l (setting_of l.kernel choice) starts (energy t choice) cost (cost_is choice is) costs

  -- ---- the least

  least_is : (b : List ℕ) → IsLeast t (Some b) → IsLeastChoice h l starts b
  least_is b (is, m, none) = record {
    allowed = meets_allowed b is m;
    cost = energy t b;
    costs = cost_is b is;
    cheapest = λ other its a costs.
        let c = allowed_meets other a in
        let e = energy_of other its c.0 costs in
        by_test (nat_lt (energy t other) (energy t b))
        (λ l. absurd (not_before t other b (none other c.0 c.1) (inl (grind (arith, nat_tests)))))
        (λ l. grind (arith, nat_tests));
    first = λ other a costs f.
        let c = allowed_meets other a in
        let e = energy_of other (energy t b) c.0 costs in
        not_before t other b (none other c.0 c.1)
        (inr (e, record { at = f.at; inside = subst (λ n. f.at < n) is.size f.inside; less = f.less; same = f.same }));
  }

  is_least : (b : List ℕ) → IsLeastChoice h l starts b → IsLeast t (Some b)
  is_least b least =
      let mine = allowed_meets b least.allowed in
      let own = energy_of b least.cost mine.0 least.costs in (
        mine.0,
        mine.1,
        λ c is m. by_test (before t c b)
            (λ e. absurd (elim (before_is t c b e) [
              | inl less ↦ let most = least.cheapest c (energy t c) (meets_allowed c is m) (cost_is c is) in omega (arith, own, less, most)
              | inr same ↦ least.first c (meets_allowed c is m) (subst (Costs c) (same.0 ∙ own) (cost_is c is))
                  (record { at = same.1.at; inside = subst (λ n. same.1.at < n) (sym mine.0.size) same.1.inside; same = same.1.same; less = same.1.less })
            ]))
            (λ e. e),
      )

  either : (best : Option (List ℕ)) → IsLeast t best ↔ IsLeastOf h l starts best
  either (Some b) = (least_is b, is_least b)
  either None = (
    λ none choice a. let c = allowed_meets choice a in none choice c.0 c.1,
    λ none choice is m. none choice (meets_allowed choice is m),
  )

pub least_of_table : LeastOfTable
least_of_table h l preds starts runs best ready tops outcomes = either h l preds starts runs ready tops outcomes best
