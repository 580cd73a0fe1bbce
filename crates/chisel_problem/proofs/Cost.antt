-- What a choice costs in the table is the cost of its setting.
use Rattle.std.proofs.Common.{◌≡◌, ℕ, ◌+◌, List, [], ◌∷◌, ◌++◌, map, drop, length, refl, sym, ap, ◌∙◌, arith}
use Rattle.std.specs.Prelude.{slice_get}
use Rattle.std.specs.List.{AllByRecursion}
use Rattle.std.specs.Option.{option_map_or}
use Rattle.std.proofs.lemmas.List.{length-map, map-append}
use Rattle.std.proofs.lemmas.List.Elements.{filter_map-append}
use Rattle.rely_hard.specs.declared.hardware.Hardware.{Hardware}
use Rattle.rely_kernel.specs.declared.kernel.Kernel.{Kernel}
use Rattle.rely_kernel.specs.declared.kernel.Linked.{Linked}
use Rattle.rely_kernel.specs.declared.kernel.Site.{Site}
use Rattle.rely_kernel.specs.declared.kernel.Var.{Var}
use Rattle.rely_kernel.specs.Choice.{KindOf, MemoryOf, decisions, filled, open_sites, open_vars, options, setting_of}
use Rattle.rely_kernel.specs.Rates.{own}
use Rattle.rely_kernel.specs.Setting.{IsClosed, kinds_of}
use Rattle.rely_kernel.proofs.Choice.{closed_has_own}
use Rattle.rely_machine.specs.declared.outcome.Outcome.{Outcome}
use Rattle.rely_machine.specs.EnergySums.{of_runs, sum_from}
use Rattle.rely_machine.proofs.EnergyCounts.{from_same}
use Rattle.chisel_problem.specs.declared.places.Place.{Place}
use Rattle.chisel_problem.specs.declared.uses.Whose.{Whose}
use Rattle.chisel_problem.specs.declared.uses.Whose.TheVariants.{Main, Inner}
use Rattle.chisel_problem.specs.Energies.{energies, site_energies, variable_energies}
use Rattle.chisel_problem.specs.Places.{closed, numbered, opened, prices_if_open, under}
use Rattle.chisel_problem.specs.Problem.{fixed_energy, inner_energy}
use Rattle.chisel_problem.specs.Spending.{site_spending, spending, variable_spending}
use Rattle.chisel_problem.proofs.Chosen.{widths}
use Rattle.chisel_problem.proofs.EnergyLaws.{function_cost, under_energies}
use Rattle.chisel_problem.proofs.Lists.{known}
use Rattle.chisel_problem.proofs.PlaceLaws.{chosen, filled_append, filled_long, numbered_slots, slots_of, under_filled}
use Rattle.chisel_problem.proofs.UseLaws.{runs_cost}

-- ---- the setting of a choice

-- a place for each site and each variable
abbrev pub all_slots : Kernel → List Place → Type 0
all_slots k ps = slots_of ps ≡ map (λ s. s.kind) k.sites ++ map (λ v. v.memory) k.vars

pub under_setting : (k : Kernel) (ps : List Place) (choice : List ℕ) → all_slots k ps
    → under ps ((setting_of k choice).sites ++ (setting_of k choice).memories) ≡ closed ps + chosen (opened ps) choice
under_setting k ps choice all =
    let numbers = filled_append (λ s. s.kind) KindOf 0 k.sites (map (λ v. v.memory) k.vars) choice in
    ap (under ps) (sym (ap (λ ss. filled ss choice) all ∙ numbers)) ∙ under_filled ps choice

both_slots : (k : Kernel) (f : ℕ → Site → Place) (g : ℕ → Var → Place) → ((i : ℕ) (s : Site) → (f i s).slot ≡ s.kind) → ((v : ℕ) (x : Var) → (g v x).slot ≡ x.memory)
    → all_slots k (numbered f 0 k.sites ++ numbered g 0 k.vars)
both_slots k f g p q =
    map-append (λ p. p.slot) (numbered f 0 k.sites) (numbered g 0 k.vars)
    ∙ (ap (λ ss. ss ++ slots_of (numbered g 0 k.vars)) (numbered_slots f (λ s. s.kind) 0 k.sites p)
    ∙ ap (λ ss. map (λ s. s.kind) k.sites ++ ss) (numbered_slots g (λ v. v.memory) 0 k.vars q))

pub energies_slots : (h : Hardware) (k : Kernel) (runs : List Outcome) (whose : Whose) → all_slots k (energies h k runs whose)
energies_slots h k runs whose = both_slots k (site_energies h k runs whose) (variable_energies h k runs whose) (λ i s. refl) (λ v x. refl)

pub spending_slots : (h : Hardware) (k : Kernel) (counts : List ℕ) → all_slots k (spending h k counts)
spending_slots h k counts = both_slots k (site_spending h k counts) (variable_spending h k counts) (λ i s. refl) (λ v x. refl)

-- ---- how many options there are

both_widths : (h : Hardware) (k : Kernel) (f : ℕ → Site → Place) (g : ℕ → Var → Place)
    → ((i : ℕ) (s : Site) → (f i s).slot ≡ s.kind) → ((v : ℕ) (x : Var) → (g v x).slot ≡ x.memory)
    → ((i : ℕ) (s : Site) → length (f i s).prices ≡ length (kinds_of h s.op)) → ((v : ℕ) (x : Var) → length (g v x).prices ≡ length h.memories)
    → map length (opened (numbered f 0 k.sites ++ numbered g 0 k.vars)) ≡ map (options k h) (decisions k)
both_widths h k f g p q m n =
    ap (map length) (filter_map-append (λ (p : Place). prices_if_open p.slot p.prices) (numbered f 0 k.sites) (numbered g 0 k.vars))
    ∙ (map-append length (opened (numbered f 0 k.sites)) (opened (numbered g 0 k.vars))
    ∙ (ap (λ ns. ns ++ map length (opened (numbered g 0 k.vars))) of_sites
    ∙ (ap (λ ns. map (options k h) (open_sites k) ++ ns) of_vars
    ∙ sym (map-append (options k h) (open_sites k) (open_vars k)))))
  where
    of_sites : map length (opened (numbered f 0 k.sites)) ≡ map (options k h) (open_sites k)
    of_sites =
        widths (λ s. s.kind) KindOf f (options k h) 0 k.sites p
        (λ i j s at e. m i s ∙ ap (λ o. option_map_or (λ (s : Site). length (kinds_of h s.op)) o 0) (sym (ap (slice_get k.sites) (omega (arith, e)) ∙ at)))

    of_vars : map length (opened (numbered g 0 k.vars)) ≡ map (options k h) (open_vars k)
    of_vars = widths (λ v. v.memory) MemoryOf g (options k h) 0 k.vars q (λ v j x at e. n v x)

pub energies_widths : (h : Hardware) (k : Kernel) (runs : List Outcome) (whose : Whose) → map length (opened (energies h k runs whose)) ≡ map (options k h) (decisions k)
energies_widths h k runs whose =
    both_widths h k (site_energies h k runs whose) (variable_energies h k runs whose) (λ i s. refl) (λ v x. refl)
    (λ i s. length-map (kinds_of h s.op) _) (λ v x. length-map h.memories _)

pub spending_widths : (h : Hardware) (k : Kernel) (counts : List ℕ) → map length (opened (spending h k counts)) ≡ map (options k h) (decisions k)
spending_widths h k counts =
    both_widths h k (site_spending h k counts) (variable_spending h k counts) (λ i s. refl) (λ v x. refl)
    (λ i s. length-map (kinds_of h s.op) _) (λ v x. length-map h.memories _)

-- ---- a function

module _ (h : Hardware) (k : Kernel) (runs : List Outcome) (whose : Whose) where
  -- its places under the setting of a choice
  choice_cost : (choice : List ℕ) → closed (energies h k runs whose) + chosen (opened (energies h k runs whose)) choice ≡ function_cost h k (setting_of k choice) runs whose
  choice_cost choice =
      let sites = filled_long (map (λ s. s.kind) k.sites) choice ∙ length-map k.sites (λ s. s.kind) in
      let vars = filled_long (map (λ v. v.memory) k.vars) (drop (length (open_sites k)) choice) ∙ length-map k.vars (λ v. v.memory) in
      sym (under_setting k (energies h k runs whose) choice (energies_slots h k runs whose))
      ∙ under_energies h k (setting_of k choice) runs whose (sym sites) (sym vars)

  -- and under its own kinds, where nothing is open
  own_cost : IsClosed k → closed (energies h k runs whose) ≡ function_cost h k (own k) runs whose
  own_cost closed_is =
      let law = closed_has_own k in
      let none : decisions k ≡ [] = law.0.0 closed_is in
      let empty : opened (energies h k runs whose) ≡ [] = no_rows (opened (energies h k runs whose)) (energies_widths h k runs whose ∙ ap (map (options k h)) none) in
      let nothing : chosen (opened (energies h k runs whose)) [] ≡ 0 = ap (λ rs. chosen rs []) empty in
      omega (arith, choice_cost [], nothing) ∙ ap (λ t. function_cost h k t runs whose) (law.1 closed_is)
    where
      no_rows : (rs : List (List ℕ)) → map length rs ≡ [] → rs ≡ []
      no_rows [] e = refl
      no_rows (r ∷ rs) e = absurd (cc)

-- ---- all functions

module _ (h : Hardware) (l : Linked) (closed_inner : AllByRecursion IsClosed l.inner) (runs : List Outcome) where
  inner_is : inner_energy h l.inner runs ≡ sum_from (λ f k. function_cost h k (own k) runs (Inner f)) 0 l.inner
  inner_is =
      from_same (λ f k. closed (energies h k runs (Inner f))) (λ f k. function_cost h k (own k) runs (Inner f)) 0 l.inner
      (λ f j k at e. own_cost h k runs (Inner f) (known IsClosed l.inner j k closed_inner at))

  -- what is fixed and what is chosen is what the runs cost under the setting
  pub choice_is_cost : (choice : List ℕ) → fixed_energy h l runs + chosen (opened (energies h l.kernel runs Main)) choice ≡ of_runs h l (setting_of l.kernel choice) runs
  choice_is_cost choice = omega (arith, choice_cost h l.kernel runs Main choice, inner_is, runs_cost h l (setting_of l.kernel choice) runs)
