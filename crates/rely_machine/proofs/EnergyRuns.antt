-- What was counted in runs is what they cost.
use Rattle.std.proofs.Common.{◌≡◌, ℕ, zero, suc, ◌+◌, ◌*◌, ◌<◌, ◌≤◌, false, List, [], ◌∷◌, ◌++◌, map, length, get_or, Some, refl, sym, ap, ◌∙◌, subst, arith, length-append}
use Rattle.std.specs.Prelude.{cond, slice_get, slice_index, sum, sum_by}
use Rattle.std.specs.List.{AllByRecursion, AllZip, zip}
use Rattle.std.specs.Option.{option_map_or}
use Rattle.std.proofs.lemmas.List.FromFn.{get_or-map-range_with_len}
use Rattle.std.proofs.lemmas.List.Sums.{sum_by-cons}
use Rattle.std.proofs.lemmas.Option.{slice_get_within}
use Rattle.rely_hard.specs.declared.hardware.Hardware.{Hardware}
use Rattle.rely_hard.specs.Valid.{IsHardware}
use Rattle.rely_kernel.specs.declared.kernel.Kernel.{Kernel}
use Rattle.rely_kernel.specs.declared.kernel.Linked.{Linked}
use Rattle.rely_kernel.specs.declared.label.Label.{Label}
use Rattle.rely_kernel.specs.declared.setting.Setting.{Setting}
use Rattle.rely_kernel.specs.declared.setting.Store.{Store}
use Rattle.rely_kernel.specs.Labels.{labels_of}
use Rattle.rely_kernel.specs.Machine.{Config, functions, main, passed, size, trace, steps}
use Rattle.rely_kernel.specs.Rates.{own, settings}
use Rattle.rely_kernel.specs.Valid.{IsLinked}
use Rattle.rely_machine.specs.declared.outcome.Outcome.{Outcome}
use Rattle.rely_machine.specs.Cost.{IsCost, IsRunCost, call_energy, cost_after, hold, step_energy}
use Rattle.rely_machine.specs.EnergySums.{capped, of_callee, of_run, of_runs, sum_from, used}
use Rattle.rely_machine.specs.Laws.{CostByUses, CostIsBounded, cost_limit}
use Rattle.rely_machine.specs.Run.{IsOutcome, calls, entered, first, most_runs, steps_limit, taken, uses, uses_at}
use Rattle.rely_machine.proofs.EnergyBounds.{all_most, hold_most}
use Rattle.rely_machine.proofs.EnergyCounts.{calls_held, from_map, from_more, from_plus, from_same, holding, steps_used, used_same, using}
use Rattle.rely_machine.proofs.EnergyItems.{Ready, all_labels, all_ready, begin_ready, last_not_called}

-- ---- places of the functions

known_inner : (ks : List Kernel) (k : Kernel) (f : ℕ) (x : Kernel) → slice_get ks f ≡ Some x → slice_get (ks ++ k ∷ []) f ≡ Some x
known_inner [] k f x e = absurd (cc)
known_inner (y ∷ ks) k zero x e = e
known_inner (y ∷ ks) k (suc f) x e = known_inner ks k f x e

known_main : (ks : List Kernel) (k : Kernel) → slice_get (ks ++ k ∷ []) (length ks) ≡ Some k
known_main [] k = refl
known_main (y ∷ ks) k = known_main ks k

-- a function with its own kinds
abbrev paired : Kernel → Kernel × Setting
paired k = (k, own k)

-- each function with its setting
zip_settings : (ks : List Kernel) (k : Kernel) (t : Setting) → zip (ks ++ k ∷ []) (map own ks ++ t ∷ []) ≡ map paired ks ++ (k, t) ∷ []
zip_settings [] k t = refl
zip_settings (x ∷ ks) k t = ap (λ (xs : List (Kernel × Setting)). paired x ∷ xs) (zip_settings ks k t)

length_map : {X Y : Type 0} (f : X → Y) (xs : List X) → length (map f xs) ≡ length xs
length_map f [] = refl
length_map f (x ∷ xs) = ap suc (length_map f xs)

-- ---- one run

module _ (h : Hardware) (l : Linked) (linked : IsLinked l) (t : Setting) (start : Store) (o : Outcome) (is : IsOutcome l start o) where
  abbrev fs : List Kernel
  fs = functions l

  abbrev ts : List Setting
  ts = settings l t

  abbrev ms : List (ℕ × Label)
  ms = trace fs is.n (first l start)

  abbrev cs : List Config
  cs = passed fs is.n (first l start)

  ready : AllByRecursion (Ready fs) cs
  ready = all_ready fs linked is.n (first l start) (begin_ready fs linked (main l) l.kernel (known_main l.inner l.kernel))

  -- what a function uses, and what its entries hold
  abbrev uses_of : ℕ → Kernel × Setting → ℕ
  uses_of = using h fs ts ms

  abbrev holds : ℕ → Kernel × Setting → ℕ
  holds = holding h fs ts cs

  -- the function itself is never entered
  never : (ds : List Config) → AllByRecursion (Ready fs) ds → entered fs ds (main l) ≡ 0
  never [] r = refl
  never (d ∷ ds) r =
      let long : length fs ≡ suc (main l) = length-append l.inner (l.kernel ∷ []) ∙ (omega arith) in
      let none : calls fs (main l) d ≡ false = last_not_called fs linked (main l) d.function d.items d.frames long r.0 in
      let one : ◌≡◌ {A = ℕ} (cond (calls fs (main l) d) 1 0) 0 = ap (λ b. cond b 1 0) none in
      omega (arith, sum_by-cons (λ d. cond (calls fs (main l) d) 1 0) d ds, one, never ds r.1)

  -- what the function uses
  main_uses : used h l.kernel t (slice_index o.uses) ≡ uses_of (main l) (l.kernel, t)
  main_uses =
      used_same h l.kernel t (slice_index o.uses) (taken l.kernel (main l) ms)
      (λ i b. rw is.uses (get_or-map-range_with_len (taken l.kernel (main l) ms) 0 (labels_of l.kernel) i i 0 b (omega arith)))

  -- what another one uses and holds
  one_callee : (f : ℕ) (k : Kernel) → slice_get l.inner f ≡ Some k → of_callee h o f k ≡ uses_of f (k, own k) + holds f (k, own k)
  one_callee f k known =
      let below : f < length l.inner = slice_get_within l.inner f k known in
      let list : get_or o.inner f [] ≡ uses k f ms =
      ap (λ xs. get_or xs f []) is.inner
      ∙ get_or-map-range_with_len (uses_at fs ms) 0 (length l.inner) f f [] below (omega arith)
      ∙ ap (λ x. option_map_or (λ k. uses k f ms) x []) (known_inner l.inner l.kernel f k known) in
      let uses : used h k (own k) (slice_index (get_or o.inner f [])) ≡ uses_of f (k, own k) =
      used_same h k (own k) (slice_index (get_or o.inner f [])) (taken k f ms)
      (λ i b. rw list (get_or-map-range_with_len (taken k f ms) 0 (labels_of k) i i 0 b (omega arith))) in
      let entries : slice_index o.entries f ≡ entered fs cs f =
      rw is.entries (get_or-map-range_with_len (entered fs cs) 0 (length l.inner) f f 0 below (omega arith)) in
      let held : slice_index o.entries f * hold h k (own k) ≡ holds f (k, own k) = ap (λ n. n * hold h k (own k)) entries in
      omega (arith, uses, held)

  -- a sum over the functions that are reached, under their own kinds
  abbrev inner_sum : (ℕ → Kernel × Setting → ℕ) → ℕ
  inner_sum F = sum_from (λ f k. F f (k, own k)) 0 l.inner

  callees : sum_from (of_callee h o) 0 l.inner ≡ inner_sum uses_of + inner_sum holds
  callees =
      from_same (of_callee h o) (λ f k. uses_of f (k, own k) + holds f (k, own k)) 0 l.inner
      (λ i j k at p. let same : j ≡ i = omega (arith, p) in one_callee i k (subst (λ n. slice_get l.inner n ≡ Some k) same at))
      ∙ from_plus (λ f k. uses_of f (k, own k)) (λ f k. holds f (k, own k)) 0 l.inner

  -- and over all
  all_sum : (F : ℕ → Kernel × Setting → ℕ) → sum_from F 0 (zip fs ts) ≡ inner_sum F + F (main l) (l.kernel, t)
  all_sum F =
      let reached : List (Kernel × Setting) = map paired l.inner in
      let long : main l ≡ 0 + length reached = sym (length_map paired l.inner) ∙ (omega arith) in
      ap (sum_from F 0) (zip_settings l.inner l.kernel t)
      ∙ from_more F 0 reached (l.kernel, t) (main l) long
      ∙ ap (λ n. n + F (main l) (l.kernel, t)) (from_map F paired 0 l.inner)

  -- what was counted is what the steps and the calls cost
  run_is : of_run h l t o ≡ cost_after h l t is.n start
  run_is =
      let steps : sum_by (step_energy h fs ts) ms ≡ sum_from uses_of 0 (zip fs ts) = steps_used h fs ts ms (all_labels fs linked cs ready) in
      let calls : sum_by (call_energy h fs ts) cs ≡ sum_from holds 0 (zip fs ts) = calls_held h fs ts cs in
      let none : holds (main l) (l.kernel, t) ≡ 0 = ap (λ n. n * hold h l.kernel t) (never cs ready) ∙ (omega arith) in
      omega (arith, steps, calls, all_sum uses_of, all_sum holds, none, main_uses, callees)

  pub run_cost : IsRunCost h l t start (of_run h l t o)
  run_cost = record { n = is.n; end = is.end; run = is.run; is = run_is }

  -- and no more than a million for each step and each number of the function
  pub run_most : IsHardware h → of_run h l t o ≤ 65536000000 + 1000000 * o.steps
  run_most valid =
      let few : sum_by size l.kernel.vars ≤ 65536 = (linked.valid (main l) l.kernel (known_main l.inner l.kernel)).numbers in
      let steps : o.steps ≡ steps fs is.n (first l start) = is.steps in
      omega (arith, few, steps, run_is, hold_most h valid l.kernel t, all_most h valid fs ts cs)

-- ---- all runs

module _ (h : Hardware) (l : Linked) (linked : IsLinked l) (t : Setting) where
  costs_are : (starts : List Store) (runs : List Outcome) → AllZip (IsOutcome l) starts runs → AllZip (IsRunCost h l t) starts (map (of_run h l t) runs)
  costs_are [] [] a = tt
  costs_are [] (o ∷ runs) a = absurd a
  costs_are (s ∷ starts) [] a = absurd a
  costs_are (s ∷ starts) (o ∷ runs) a = (run_cost h l linked t s o a.0, costs_are starts runs a.1)

  sum_is : (runs : List Outcome) → sum (map (of_run h l t) runs) ≡ of_runs h l t runs
  sum_is [] = refl
  sum_is (o ∷ runs) = omega (arith, sum_by-cons (λ n. n) (of_run h l t o) (map (of_run h l t) runs), sum_by-cons (of_run h l t) o runs, sum_is runs)

  runs_most : IsHardware h → (starts : List Store) (runs : List Outcome) → AllZip (IsOutcome l) starts runs → of_runs h l t runs ≤ 65536000000 * length runs + 1000000 * sum_by (λ o. o.steps) runs
  runs_most valid [] [] a = omega arith
  runs_most valid [] (o ∷ runs) a = absurd a
  runs_most valid (s ∷ starts) [] a = absurd a
  runs_most valid (s ∷ starts) (o ∷ runs) a =
      omega (arith, run_most h l linked t s o a.0 valid, runs_most valid starts runs a.1, sum_by-cons (of_run h l t) o runs, sum_by-cons (λ o. o.steps) o runs)

pub cost_by_uses : CostByUses
cost_by_uses h l t starts runs linked a = record {
  costs = map (of_run h l t) runs;
  each = costs_are h l linked t starts runs a;
  is = sym (sum_is h l linked t runs);
}

below_limit : (h : Hardware) (l : Linked) (t : Setting) (starts : List Store) (runs : List Outcome) → IsHardware h → IsLinked l → AllZip (IsOutcome l) starts runs
    → length runs ≤ most_runs → sum_by (λ o. o.steps) runs < steps_limit → of_runs h l t runs < cost_limit
below_limit h l t starts runs valid linked a short few = let most = runs_most h l linked t valid starts runs a in omega (arith, most, few, short)

pub cost_is_bounded : CostIsBounded
cost_is_bounded h l t runs valid linked are short few = below_limit h l t are.starts runs valid linked are.outcomes short few

-- a number below the limit isn't capped
uncapped : (n : ℕ) → n < cost_limit → capped n ≡ n
uncapped n below = omega arith

-- so 64 bits hold what few and short runs cost
pub runs_cost : (h : Hardware) (l : Linked) (t : Setting) (starts : List Store) (runs : List Outcome) → IsHardware h → IsLinked l
    → sum_by (λ o. o.steps) runs < steps_limit → length runs ≤ most_runs → AllZip (IsOutcome l) starts runs → IsCost h l t starts (capped (of_runs h l t runs))
runs_cost h l t starts runs valid linked few short a =
    subst (IsCost h l t starts) (sym (uncapped (of_runs h l t runs) (below_limit h l t starts runs valid linked a short few))) (cost_by_uses h l t starts runs linked a)
