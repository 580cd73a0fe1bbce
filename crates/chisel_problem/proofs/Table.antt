-- The table of a kernel is valid, and says of each choice what its setting costs and whether it meets the budgets.
use Rattle.std.proofs.Common.{◌≡◌, ℕ, ◌<◌, List, [], ◌∷◌, map, length, sym, ap, ◌∙◌, subst, arith}
use Rattle.std.specs.Prelude.{slice_index, slice_index_or, pos, ◌≤ℤ◌, IsTrue}
use Rattle.std.specs.List.{AllByRecursion, AllZip}
use Rattle.std.proofs.lemmas.List.{length-map}
use Rattle.rely_num.specs.Sets.{is_within}
use Rattle.rely_hard.specs.declared.hardware.Hardware.{Hardware}
use Rattle.rely_kernel.specs.declared.kernel.Linked.{Linked}
use Rattle.rely_kernel.specs.Choice.{decisions, options, setting_of}
use Rattle.rely_kernel.specs.Labels.{labels_of}
use Rattle.rely_kernel.specs.Setting.{IsOn}
use Rattle.rely_machine.specs.declared.outcome.Outcome.{Outcome}
use Rattle.rely_machine.specs.Cost.{IsCost}
use Rattle.rely_machine.specs.EnergySums.{of_runs}
use Rattle.rely_machine.proofs.EnergyRuns.{cost_by_uses}
use Rattle.rely_predicate.specs.Predicates.{Conjuncts}
use Rattle.chisel_table.specs.Choices.{energy}
use Rattle.chisel_table.specs.declared.table.Row.{Row}
use Rattle.chisel_table.specs.Sums.{sum_to}
use Rattle.chisel_problem.specs.declared.uses.Whose.TheVariants.{Main}
use Rattle.chisel_problem.specs.Energies.{energies}
use Rattle.chisel_problem.specs.Places.{opened}
use Rattle.chisel_problem.specs.Problem.{AreReady, rows_of, table_of}
use Rattle.chisel_problem.specs.Promises.{ChoicesAreKernels, EnergyIsCost, MeetingKeepsBounds, RowsAreBudgets, StaysWithin}
use Rattle.chisel_problem.proofs.Bounds.{budgets_keep_claims}
use Rattle.chisel_problem.proofs.Chosen.{chosen_is, in_range, ranges, ranges_long}
use Rattle.chisel_problem.proofs.Cost.{choice_is_cost, energies_widths}
use Rattle.chisel_problem.proofs.Lists.{behind, by_place, from_places}
use Rattle.chisel_problem.proofs.Meeting.{RowMet, rows_are_budgets}
use Rattle.chisel_problem.proofs.Tops.{as_tops}

module _ (h : Hardware) (l : Linked) (ready : AreReady h l) (preds : List Conjuncts) (runs : List Outcome) where
  abbrev rows : List (List ℕ)
  rows = opened (energies h l.kernel runs Main)

  pub wide : map length rows ≡ map (options l.kernel h) (decisions l.kernel)
  wide = energies_widths h l.kernel runs Main

  pub long : length rows ≡ length (decisions l.kernel)
  long = sym (length-map rows length) ∙ (ap length wide ∙ length-map (decisions l.kernel) (options l.kernel h))

  pub main_on : IsOn h l.kernel
  main_on = (behind (IsOn h) l.inner (l.kernel ∷ []) ready.on).0

  -- ---- choices

  mapped_zip : {X : Type 0} (f : X → ℕ) (xs : List X) (ns : List ℕ) → AllZip (λ n o. o < n) (map f xs) ns → AllZip (λ x o. o < f x) xs ns
  mapped_zip f [] [] all = tt
  mapped_zip f [] (n ∷ ns) all = absurd all
  mapped_zip f (x ∷ xs) [] all = absurd all
  mapped_zip f (x ∷ xs) (n ∷ ns) all = (all.0, mapped_zip f xs ns all.1)

  zip_mapped : {X : Type 0} (f : X → ℕ) (xs : List X) (ns : List ℕ) → AllZip (λ x o. o < f x) xs ns → AllZip (λ n o. o < n) (map f xs) ns
  zip_mapped f [] [] all = tt
  zip_mapped f [] (n ∷ ns) all = absurd all
  zip_mapped f (x ∷ xs) [] all = absurd all
  zip_mapped f (x ∷ xs) (n ∷ ns) all = (all.0, zip_mapped f xs ns all.1)

  pub choices_are : ChoicesAreKernels h l.kernel (table_of h l preds runs)
  unfolding table_of
  choices_are choice = (
    λ c. mapped_zip (options l.kernel h) (decisions l.kernel) choice (subst (λ ns. AllZip (λ n o. o < n) ns choice) wide (ranges rows choice c.size c.in_range)),
    λ c.
        let each = subst (λ ns. AllZip (λ n o. o < n) ns choice) (sym wide) (zip_mapped (options l.kernel h) (decisions l.kernel) choice c) in
        record { size = ranges_long rows choice each; in_range = in_range rows choice each },
  )

  -- ---- energies

  pub energy_is : (choice : List ℕ) → energy (table_of h l preds runs) choice ≡ of_runs h l (setting_of l.kernel choice) runs
  unfolding table_of
  energy_is choice = omega (arith, chosen_is rows choice, choice_is_cost h l ready.closed runs choice)

  pub energy_is_cost : EnergyIsCost h l runs (table_of h l preds runs)
  energy_is_cost choice starts is outcomes =
      subst (λ cost. IsCost h l (setting_of l.kernel choice) starts cost) (sym (energy_is choice))
      (cost_by_uses h l (setting_of l.kernel choice) starts runs ready.linked outcomes)

  -- ---- rows

  module _ (one_a_claim : length preds ≡ length l.kernel.claims)
      (counted : AllByRecursion (λ p. AllByRecursion (λ c. length c.counts ≡ labels_of l.kernel) p.conjs) preds) where
    abbrev none : Row
    none = record { budget = pos 0; spent = [] }

    -- what the choice spends of row i in n decisions
    abbrev spent_to : List ℕ → ℕ → ℕ → ℕ
    spent_to choice i n = sum_to n (λ d. slice_index (slice_index_or (slice_index_or (rows_of h l.kernel preds) i none).spent d []) (slice_index choice d))

    abbrev InBudget : List ℕ → ℕ → ℕ → Type 0
    InBudget choice i n = pos (spent_to choice i n) ≤ℤ (slice_index_or (rows_of h l.kernel preds) i none).budget

    pub rows_are : RowsAreBudgets h l.kernel preds (table_of h l preds runs)
    unfolding table_of
    rows_are choice is =
        let mine = (choices_are choice).0 is in
        let Met : Row → Type 0 = RowMet (length (decisions l.kernel)) choice in
        let law = rows_are_budgets h l.kernel main_on choice mine preds one_a_claim counted in (
          λ m. law.0 (from_places Met none (rows_of h l.kernel preds) (λ i below. record { within = subst (InBudget choice i) long (m.rows i below) })),
          λ b. record { rows = λ i below. subst (InBudget choice i) (sym long) (by_place Met none (rows_of h l.kernel preds) (law.1 b) i below).within },
        )

    -- ---- bounds

    pub bounds_hold : MeetingKeepsBounds h l preds (table_of h l preds runs)
    bounds_hold tops within choice is meets =
        let k = l.kernel in
        let t = setting_of k choice in
        let needs = as_tops k (λ claim cs. AllByRecursion (λ c. IsTrue (is_within c.vars.bits claim.needs.bits)) cs) k.claims preds tops in
        let stays = as_tops k (λ claim cs. AllByRecursion (StaysWithin h k t claim) cs) k.claims preds tops in
        budgets_keep_claims h l t ready.hardware ready.linked (needs.0 within) (stays.0 ((rows_are choice is).0 meets))
