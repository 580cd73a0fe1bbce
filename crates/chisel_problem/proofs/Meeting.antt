-- A choice meets the rows exactly where its setting meets the budgets.
use Rattle.std.proofs.Common.{◌≡◌, ℕ, ◌+◌, ◌≤◌, ◌↔◌, List, [], ◌∷◌, map, length, sym, ap, ◌∙◌, arith}
use Rattle.std.specs.Prelude.{flat_map, pos, ◌-ℤ◌, ◌≤ℤ◌, slice_index, slice_index_or}
use Rattle.std.specs.List.{AllByRecursion, AllZip, zip}
use Rattle.std.proofs.lemmas.Int.{ints}
use Rattle.std.proofs.lemmas.List.{length-map}
use Rattle.rely_num.specs.declared.conj.Conj.{Conj}
use Rattle.rely_hard.specs.declared.hardware.Hardware.{Hardware}
use Rattle.rely_kernel.specs.declared.kernel.Claim.{Claim}
use Rattle.rely_kernel.specs.declared.kernel.Kernel.{Kernel}
use Rattle.rely_kernel.specs.Choice.{IsChoice, decisions, options, setting_of}
use Rattle.rely_kernel.specs.Labels.{labels_of}
use Rattle.rely_kernel.specs.Rates.{rates}
use Rattle.rely_kernel.specs.Setting.{IsOn}
use Rattle.rely_kernel.proofs.Choice.{choice_fits}
use Rattle.rely_predicate.specs.Predicates.{Conjuncts}
use Rattle.chisel_debit.specs.Budgets.{spent}
use Rattle.chisel_debit.specs.Debits.{budget}
use Rattle.chisel_table.specs.declared.table.Row.{Row}
use Rattle.chisel_table.specs.Sums.{sum_to}
use Rattle.chisel_problem.specs.Places.{closed, opened}
use Rattle.chisel_problem.specs.Problem.{row_within, rows_of}
use Rattle.chisel_problem.specs.Promises.{MeetsBudgets, StaysWithin}
use Rattle.chisel_problem.specs.Spending.{calls_spend, spending}
use Rattle.chisel_problem.proofs.Chosen.{chosen_is}
use Rattle.chisel_problem.proofs.Cost.{spending_slots, spending_widths, under_setting}
use Rattle.chisel_problem.proofs.Lists.{behind, front, joined}
use Rattle.chisel_problem.proofs.PlaceLaws.{chosen}
use Rattle.chisel_problem.proofs.Rates.{spent_is}

-- what a choice of so many decisions spends in a row, within its budget
pub record RowMet (many : ℕ) (choice : List ℕ) (r : Row) : Type 0 where
  pub within : pos (sum_to many (λ d. slice_index (slice_index_or r.spent d []) (slice_index choice d))) ≤ℤ r.budget

at_most : (x y a : ℕ) → x + y ≤ a → pos x ≤ℤ (pos a -ℤ pos y)
at_most x y a h = grind (arith, ints)

at_most_back : (x y a : ℕ) → pos x ≤ℤ (pos a -ℤ pos y) → x + y ≤ a
at_most_back x y a h = grind (arith, ints)

module _ (h : Hardware) (k : Kernel) (on : IsOn h k) (choice : List ℕ) (is : IsChoice k h choice) where
  -- what it spends there, and what is spent whatever is chosen, is what all labels spend
  all_spent : (counts : List ℕ) → length counts ≡ labels_of k
      → sum_to (length (decisions k)) (λ d. slice_index (slice_index_or (opened (spending h k counts)) d []) (slice_index choice d)) + (closed (spending h k counts) + calls_spend h k counts)
      ≡ spent h.base (rates h k (setting_of k choice)) counts
  all_spent counts long =
      let rows = opened (spending h k counts) in
      let wide : length rows ≡ length (decisions k) =
      sym (length-map rows length) ∙ (ap length (spending_widths h k counts) ∙ length-map (decisions k) (options k h)) in
      let taken : sum_to (length (decisions k)) (λ d. slice_index (slice_index_or rows d []) (slice_index choice d)) ≡ chosen rows choice =
      ap (λ n. sum_to n (λ d. slice_index (slice_index_or rows d []) (slice_index choice d))) (sym wide) ∙ chosen_is rows choice in
      let places = under_setting k (spending h k counts) choice (spending_slots h k counts) in
      omega (arith, taken, places, spent_is h k (setting_of k choice) (choice_fits h k choice on is) counts long)

  met : (allowed : ℕ) (counts : List ℕ) → length counts ≡ labels_of k
      → RowMet (length (decisions k)) choice (row_within h k allowed counts) ↔ (spent h.base (rates h k (setting_of k choice)) counts ≤ allowed)
  met allowed counts long =
      let all = all_spent counts long in
      let x = sum_to (length (decisions k)) (λ d. slice_index (slice_index_or (opened (spending h k counts)) d []) (slice_index choice d)) in
      let y = closed (spending h k counts) + calls_spend h k counts in (
        λ m. omega (arith, all, at_most_back x y allowed m.within),
        λ m. record { within = at_most x y allowed (omega (arith, all, m)) },
      )

  -- ---- row by row

  abbrev Met : Row → Type 0
  Met = RowMet (length (decisions k)) choice

  abbrev Counted : Conjuncts → Type 0
  Counted p = AllByRecursion (λ c. length c.counts ≡ labels_of k) p.conjs

  abbrev rows_for : Claim → List Conj → List Row
  rows_for claim cs = map (λ c. row_within h k (budget h.base claim.bound) c.counts) cs

  conjuncts_stay : (claim : Claim) (cs : List Conj) → AllByRecursion (λ c. length c.counts ≡ labels_of k) cs → AllByRecursion Met (rows_for claim cs)
      → AllByRecursion (StaysWithin h k (setting_of k choice) claim) cs
  conjuncts_stay claim [] counted all = tt
  conjuncts_stay claim (c ∷ cs) counted all = ((met (budget h.base claim.bound) c.counts counted.0).0 all.0, conjuncts_stay claim cs counted.1 all.1)

  conjuncts_met : (claim : Claim) (cs : List Conj) → AllByRecursion (λ c. length c.counts ≡ labels_of k) cs
      → AllByRecursion (StaysWithin h k (setting_of k choice) claim) cs → AllByRecursion Met (rows_for claim cs)
  conjuncts_met claim [] counted all = tt
  conjuncts_met claim (c ∷ cs) counted all = ((met (budget h.base claim.bound) c.counts counted.0).1 all.0, conjuncts_met claim cs counted.1 all.1)

  abbrev all_rows : List Claim → List Conjuncts → List Row
  all_rows claims preds = flat_map (λ x. rows_for x.0 x.1.conjs) (zip claims preds)

  claims_stay : (claims : List Claim) (preds : List Conjuncts) → length preds ≡ length claims → AllByRecursion Counted preds → AllByRecursion Met (all_rows claims preds)
      → AllZip (λ claim p. AllByRecursion (StaysWithin h k (setting_of k choice) claim) p.conjs) claims preds
  claims_stay [] [] long counted all = tt
  claims_stay [] (p ∷ ps) long counted all = absurd (omega (arith, long))
  claims_stay (c ∷ cs) [] long counted all = absurd (omega (arith, long))
  claims_stay (c ∷ cs) (p ∷ ps) long counted all = (
    conjuncts_stay c p.conjs counted.0 (front Met (rows_for c p.conjs) (all_rows cs ps) all),
    claims_stay cs ps (omega (arith, long)) counted.1 (behind Met (rows_for c p.conjs) (all_rows cs ps) all),
  )

  claims_met : (claims : List Claim) (preds : List Conjuncts) → length preds ≡ length claims → AllByRecursion Counted preds
      → AllZip (λ claim p. AllByRecursion (StaysWithin h k (setting_of k choice) claim) p.conjs) claims preds → AllByRecursion Met (all_rows claims preds)
  claims_met [] [] long counted all = tt
  claims_met [] (p ∷ ps) long counted all = absurd (omega (arith, long))
  claims_met (c ∷ cs) [] long counted all = absurd (omega (arith, long))
  claims_met (c ∷ cs) (p ∷ ps) long counted all =
      joined Met (rows_for c p.conjs) (all_rows cs ps) (conjuncts_met c p.conjs counted.0 all.0) (claims_met cs ps (omega (arith, long)) counted.1 all.1)

  -- all rows
  pub rows_are_budgets : (preds : List Conjuncts) → length preds ≡ length k.claims → AllByRecursion Counted preds
      → AllByRecursion Met (rows_of h k preds) ↔ MeetsBudgets h k preds (setting_of k choice)
  rows_are_budgets preds long counted = (claims_stay k.claims preds long counted, claims_met k.claims preds long counted)
