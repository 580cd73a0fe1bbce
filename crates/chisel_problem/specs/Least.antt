-- The least choice of a kernel: of those that meet the budgets it costs least over the samples.
use Rattle.std.specs.Prelude.{ℕ, ◌≡◌, ◌<◌, ◌≤◌, ◌↔◌, List, length, slice_index, Option, Some, None, IsTrue}
use Rattle.std.specs.List.{AllByRecursion, AllZip}
use Rattle.rely_num.specs.Sets.{is_within}
use Rattle.rely_hard.specs.Valid.{IsHardware}
use Rattle.rely_hard.specs.declared.hardware.Hardware.{Hardware}
use Rattle.rely_kernel.specs.declared.kernel.Kernel.{Kernel}
use Rattle.rely_kernel.specs.declared.kernel.Linked.{Linked}
use Rattle.rely_kernel.specs.declared.setting.Setting.{Setting}
use Rattle.rely_kernel.specs.declared.setting.Store.{Store}
use Rattle.rely_kernel.specs.Choice.{IsChoice, setting_of}
use Rattle.rely_kernel.specs.Paths.{paths_of}
use Rattle.rely_kernel.specs.Valid.{IsLinked}
use Rattle.rely_machine.specs.declared.outcome.Outcome.{Outcome}
use Rattle.rely_machine.specs.Cost.{IsCost}
use Rattle.rely_machine.specs.Run.{IsOutcome}
use Rattle.rely_predicate.specs.Predicates.{Conjuncts}
use Rattle.rely_predicate.specs.Top.{top}
use Rattle.chisel_table.specs.Least.{IsLeast}
use Rattle.chisel_problem.specs.Problem.{AreReady, table_of}
use Rattle.chisel_problem.specs.Promises.{AreTops, BoundsHold, StaysWithin}

-- ---- budgets

-- under the setting each conjunct of the top of a claim's paths stays within the budget of the claim's bound
abbrev pub KeepsBudgets : Hardware → Kernel → Setting → Type 0
KeepsBudgets h k t =
    AllByRecursion (λ claim. AllByRecursion (StaysWithin h k t claim) (top (paths_of k claim.target))) k.claims

-- no variable of these conjuncts lies outside the needs
abbrev pub NamesNeedsAlone : Kernel → Type 0
NamesNeedsAlone k =
    AllByRecursion (λ claim. AllByRecursion (λ c. IsTrue (is_within c.vars.bits claim.needs.bits)) (top (paths_of k claim.target))) k.claims

-- a choice of the kernel whose setting keeps the budgets
pub record IsAllowed (h : Hardware) (k : Kernel) (choice : List ℕ) : Type 0 where
  pub is_choice : IsChoice k h choice
  pub keeps : KeepsBudgets h k (setting_of k choice)

-- ---- the least

-- the lesser option at the first decision where the two differ
pub record ComesFirst (a b : List ℕ) : Type 0 where
  pub at : ℕ
  pub inside : at < length b
  pub same : (d : ℕ) → d < at → slice_index a d ≡ slice_index b d
  pub less : slice_index a at < slice_index b at

-- it is allowed, no allowed choice costs less over the samples, and none of those that cost as much comes first
pub record IsLeastChoice (h : Hardware) (l : Linked) (starts : List Store) (choice : List ℕ) : Type 0 where
  pub allowed : IsAllowed h l.kernel choice
  pub cost : ℕ
  pub costs : IsCost h l (setting_of l.kernel choice) starts cost
  pub cheapest : (other : List ℕ) (its : ℕ) → IsAllowed h l.kernel other → IsCost h l (setting_of l.kernel other) starts its → cost ≤ its
  pub first : (other : List ℕ) → IsAllowed h l.kernel other → IsCost h l (setting_of l.kernel other) starts cost → ComesFirst other choice → ⊥

-- the least choice, or that none is allowed
abbrev pub IsLeastOf : Hardware → Linked → List Store → Option (List ℕ) → Type 0
IsLeastOf h l starts (Some choice) = IsLeastChoice h l starts choice
IsLeastOf h l starts None = (choice : List ℕ) → IsAllowed h l.kernel choice → ⊥

-- ---- laws

-- the least of the table is the least of the kernel over the samples that the outcomes are of
abbrev pub LeastOfTable : Type 0
LeastOfTable =
    (h : Hardware) (l : Linked) (preds : List Conjuncts) (starts : List Store) (runs : List Outcome) (best : Option (List ℕ))
    → AreReady h l → AreTops l.kernel preds → AllZip (IsOutcome l) starts runs
    → (IsLeast (table_of h l preds runs) best ↔ IsLeastOf h l starts best)

-- where the conjuncts name needs alone, every claim's bound holds under a setting that keeps the budgets
abbrev pub BudgetsKeepClaims : Type 0
BudgetsKeepClaims =
    (h : Hardware) (l : Linked) (t : Setting) → IsHardware h → IsLinked l → NamesNeedsAlone l.kernel → KeepsBudgets h l.kernel t → BoundsHold h l t
