-- 64 bits hold what places cost, since no setting costs more than few and short runs can.
use Rattle.std.proofs.Common.{◌≡◌, ℕ, ◌+◌, ◌<◌, ◌≤◌, List, [], ◌∷◌, ◌++◌, map, length, refl, sym, ap, ◌∙◌, arith, length-append}
use Rattle.std.specs.Prelude.{min, replicate}
use Rattle.std.proofs.lemmas.List.{length-replicate, replicate-append-replicate}
use Rattle.rely_hard.specs.declared.hardware.Hardware.{Hardware}
use Rattle.rely_kernel.specs.declared.kernel.Linked.{Linked}
use Rattle.rely_kernel.specs.declared.setting.Setting.{Setting}
use Rattle.rely_kernel.specs.Choice.{setting_of}
use Rattle.rely_machine.specs.declared.outcome.Outcome.{Outcome}
use Rattle.rely_machine.specs.EnergySums.{capped, of_runs}
use Rattle.rely_machine.specs.Laws.{cost_limit}
use Rattle.rely_machine.proofs.EnergyRuns.{cost_is_bounded}
use Rattle.rely_predicate.specs.Predicates.{Conjuncts}
use Rattle.chisel_table.specs.declared.table.Row.{Row}
use Rattle.chisel_problem.specs.declared.places.Place.{Place}
use Rattle.chisel_problem.specs.declared.uses.Whose.TheVariants.{Main}
use Rattle.chisel_problem.specs.Capped.{capped_place}
use Rattle.chisel_problem.specs.Energies.{energies, site_energies, variable_energies}
use Rattle.chisel_problem.specs.Places.{closed, numbered, opened, under}
use Rattle.chisel_problem.specs.Problem.{AreReady, AreSamples, fixed_energy, inner_energy, rows_of, table_of}
use Rattle.chisel_problem.proofs.Capped.{place_stays}
use Rattle.chisel_problem.proofs.Cost.{choice_is_cost}
use Rattle.chisel_problem.proofs.EnergyLaws.{function_cost, under_energies}
use Rattle.chisel_problem.proofs.PlaceLaws.{numbered_long}
use Rattle.chisel_problem.proofs.UseLaws.{runs_cost}

-- places that are small with one number all over
small_places : (ps : List Place) → ((n : ℕ) → under ps (replicate (length ps) n) ≤ 18446744073709551615) → map capped_place ps ≡ ps
small_places [] small = refl
small_places (p ∷ ps) small =
    let first : capped_place p ≡ p = place_stays p (λ n. omega (arith, small n)) in
    let rest : map capped_place ps ≡ ps = small_places ps (λ n. omega (arith, small n)) in
    cc

module _ (h : Hardware) (l : Linked) (ready : AreReady h l) (runs : List Outcome) (samples : AreSamples l runs) where
  -- a setting with one number all over
  abbrev all_of : ℕ → Setting
  all_of n = record { sites = replicate (length l.kernel.sites) n; memories = replicate (length l.kernel.vars) n }

  pub cost_small : (t : Setting) → of_runs h l t runs < cost_limit
  cost_small t = cost_is_bounded h l t runs ready.hardware ready.linked samples.outcomes samples.few samples.short

  under_small : (n : ℕ) → under (energies h l.kernel runs Main) (replicate (length (energies h l.kernel runs Main)) n) ≤ 18446744073709551615
  under_small n =
      let k = l.kernel in
      let long : length (energies h k runs Main) ≡ length k.sites + length k.vars =
      length-append (numbered (site_energies h k runs Main) 0 k.sites) (numbered (variable_energies h k runs Main) 0 k.vars)
      ∙ omega (arith, numbered_long (site_energies h k runs Main) 0 k.sites, numbered_long (variable_energies h k runs Main) 0 k.vars) in
      let numbers : replicate (length (energies h k runs Main)) n ≡ (all_of n).sites ++ (all_of n).memories =
      ap (λ m. replicate m n) long ∙ sym (replicate-append-replicate (length k.sites) (length k.vars) n) in
      let cost : under (energies h k runs Main) (replicate (length (energies h k runs Main)) n) ≡ function_cost h k (all_of n) runs Main =
      ap (under (energies h k runs Main)) numbers
      ∙ under_energies h k (all_of n) runs Main (sym (length-replicate (length k.sites) n)) (sym (length-replicate (length k.vars) n)) in
      omega (arith, cost, runs_cost h l (all_of n) runs, cost_small (all_of n))

  pub energies_stay : map capped_place (energies h l.kernel runs Main) ≡ energies h l.kernel runs Main
  energies_stay = small_places (energies h l.kernel runs Main) under_small

  -- and what is fixed
  pub fixed_small : fixed_energy h l runs ≤ 18446744073709551615
  fixed_small = omega (arith, choice_is_cost h l ready.closed runs [], cost_small (setting_of l.kernel []))

  -- so what is gathered with capped numbers is the table
  pub table_is : (preds : List Conjuncts) (fixed inner : ℕ) (places : List Place) (prices : List (List ℕ)) (rows : List Row)
      → places ≡ map capped_place (energies h l.kernel runs Main) → inner ≡ capped (inner_energy h l.inner runs)
      → fixed ≡ min (capped (closed places) + inner) 18446744073709551615 → prices ≡ opened places → rows ≡ rows_of h l.kernel preds
      → record { fixed = fixed; energies = prices; rows = rows } ≡ table_of h l preds runs
  unfolding table_of
  table_is preds fixed inner places prices rows p i f o r =
      let stay : places ≡ energies h l.kernel runs Main = p ∙ energies_stay in
      let same : closed places ≡ closed (energies h l.kernel runs Main) = ap closed stay in
      let sum : fixed ≡ fixed_energy h l runs = omega (arith, same, i, f, fixed_small) in
      let each : prices ≡ opened (energies h l.kernel runs Main) = o ∙ ap opened stay in
      cc
