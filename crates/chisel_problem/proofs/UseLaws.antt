-- What runs cost together, by what they use and hold together.
use Rattle.std.proofs.Common.{◌≡◌, ℕ, ◌+◌, ◌*◌, List, [], ◌∷◌, refl, arith}
use Rattle.std.specs.Prelude.{slice_index}
use Rattle.std.proofs.lemmas.List.Sums.{sum_by-cons}
use Rattle.rely_hard.specs.declared.hardware.Hardware.{Hardware}
use Rattle.rely_kernel.specs.declared.kernel.Kernel.{Kernel}
use Rattle.rely_kernel.specs.declared.kernel.Linked.{Linked}
use Rattle.rely_kernel.specs.declared.setting.Setting.{Setting}
use Rattle.rely_kernel.specs.Rates.{own}
use Rattle.rely_machine.specs.declared.outcome.Outcome.{Outcome}
use Rattle.rely_machine.specs.Cost.{hold}
use Rattle.rely_machine.specs.EnergySums.{of_callee, of_run, of_runs, sum_from, used}
use Rattle.rely_machine.proofs.EnergyCounts.{from_none, from_plus, from_same, used_none, used_plus, used_same}
use Rattle.chisel_problem.specs.declared.uses.Whose.{Whose}
use Rattle.chisel_problem.specs.declared.uses.Whose.TheVariants.{Main, Inner}
use Rattle.chisel_problem.specs.Uses.{holds, holds_of, uses, uses_of}
use Rattle.chisel_problem.proofs.EnergyLaws.{function_cost}

module _ (h : Hardware) where
  no_cost : (k : Kernel) (t : Setting) (whose : Whose) → function_cost h k t [] whose ≡ 0
  no_cost k t whose = omega (arith, used_none h k t (uses [] whose) (λ i. refl))

  -- one run more
  more_cost : (k : Kernel) (t : Setting) (whose : Whose) (o : Outcome) (runs : List Outcome)
      → function_cost h k t (o ∷ runs) whose ≡ (used h k t (slice_index (uses_of whose o)) + holds_of whose o * hold h k t) + function_cost h k t runs whose
  more_cost k t whose o runs =
      let one : ℕ → ℕ = slice_index (uses_of whose o) in
      let each = used_same h k t (uses (o ∷ runs) whose) (λ i. one i + uses runs whose i) (λ i l. sum_by-cons (λ o. slice_index (uses_of whose o) i) o runs) in
      let sum = used_plus h k t one (uses runs whose) in
      let held : holds (o ∷ runs) whose ≡ holds_of whose o + holds runs whose = sum_by-cons (holds_of whose) o runs in
      let both = spread (holds_of whose o) (holds runs whose) (hold h k t) in
      rw held (omega (arith, each, sum, both))
    where
      spread : (a b c : ℕ) → (a + b) * c ≡ a * c + b * c
      spread a b c = omega arith

  -- the function that runs under a setting, and those that it reaches under their own kinds
  pub runs_cost : (l : Linked) (t : Setting) (runs : List Outcome)
      → of_runs h l t runs ≡ function_cost h l.kernel t runs Main + sum_from (λ f k. function_cost h k (own k) runs (Inner f)) 0 l.inner
  runs_cost l t [] =
      omega (arith, no_cost l.kernel t Main, from_none (λ f k. function_cost h k (own k) [] (Inner f)) 0 l.inner (λ f k p. no_cost k (own k) (Inner f)))
  runs_cost l t (o ∷ runs) =
      let inner =
      from_same (λ f k. function_cost h k (own k) (o ∷ runs) (Inner f)) (λ f k. of_callee h o f k + function_cost h k (own k) runs (Inner f)) 0 l.inner
      (λ f j k at e. more_cost k (own k) (Inner f) o runs) in
      let parts = from_plus (of_callee h o) (λ f k. function_cost h k (own k) runs (Inner f)) 0 l.inner in
      omega (arith, sum_by-cons (of_run h l t) o runs, more_cost l.kernel t Main o runs, runs_cost l t runs, inner, parts)
