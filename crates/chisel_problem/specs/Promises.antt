-- What a table says of a kernel: energies are costs, rows are budgets, and what meets the rows keeps every bound.
use Rattle.std.specs.Prelude.{ℕ, ◌≡◌, ◌≤◌, ◌↔◌, List, IsTrue}
use Rattle.std.specs.List.{AllByRecursion, AllZip}
use Rattle.rely_num.specs.declared.conj.Conj.{Conj}
use Rattle.rely_num.specs.Sets.{is_within}
use Rattle.rely_hard.specs.declared.hardware.Hardware.{Hardware}
use Rattle.rely_kernel.specs.declared.kernel.Claim.{Claim}
use Rattle.rely_kernel.specs.declared.kernel.Kernel.{Kernel}
use Rattle.rely_kernel.specs.declared.kernel.Linked.{Linked}
use Rattle.rely_kernel.specs.declared.setting.Setting.{Setting}
use Rattle.rely_kernel.specs.declared.setting.Store.{Store}
use Rattle.rely_kernel.specs.Bound.{BoundHolds}
use Rattle.rely_kernel.specs.Choice.{setting_of}
use Rattle.rely_kernel.specs.Choice as kernel
use Rattle.rely_kernel.specs.Machine.{functions, main}
use Rattle.rely_kernel.specs.Paths.{paths_of}
use Rattle.rely_kernel.specs.Rates.{rate, rates, settings}
use Rattle.rely_kernel.specs.Sound.{CalleesHold}
use Rattle.rely_machine.specs.declared.outcome.Outcome.{Outcome}
use Rattle.rely_machine.specs.Cost.{IsCost}
use Rattle.rely_machine.specs.Run.{IsOutcome}
use Rattle.rely_predicate.specs.Predicates.{Conjuncts}
use Rattle.rely_predicate.specs.Top.{top}
use Rattle.chisel_debit.specs.Budgets.{spent}
use Rattle.chisel_debit.specs.Debits.{budget}
use Rattle.chisel_table.specs.declared.table.Table.{Table}
use Rattle.chisel_table.specs.Choices.{IsChoice, Meets, energy}

-- the choices of the table are those of the kernel
abbrev pub ChoicesAreKernels : Hardware → Kernel → Table → Type 0
ChoicesAreKernels h k t = (choice : List ℕ) → IsChoice t choice ↔ kernel.IsChoice k h choice

-- the energy of a choice is the cost of its setting over the samples
abbrev pub EnergyIsCost : Hardware → Linked → List Outcome → Table → Type 0
EnergyIsCost h l runs t =
    (choice : List ℕ) (starts : List Store) → IsChoice t choice → AllZip (IsOutcome l) starts runs
    → IsCost h l (setting_of l.kernel choice) starts (energy t choice)

-- ---- budgets

-- the counts of a conjunct spend at most the budget of the claim's bound: over all labels, each count times the debit of
-- the label's reliability
abbrev pub StaysWithin : Hardware → Kernel → Setting → Claim → Conj → Type 0
StaysWithin h k t claim c = spent h.base (rates h k t) c.counts ≤ budget h.base claim.bound

-- so do all conjuncts of all claims
abbrev pub MeetsBudgets : Hardware → Kernel → List Conjuncts → Setting → Type 0
MeetsBudgets h k preds t = AllZip (λ claim p. AllByRecursion (StaysWithin h k t claim) p.conjs) k.claims preds

-- a choice meets the rows exactly where its setting meets the budgets
abbrev pub RowsAreBudgets : Hardware → Kernel → List Conjuncts → Table → Type 0
RowsAreBudgets h k preds t =
    (choice : List ℕ) → IsChoice t choice → (Meets t choice ↔ MeetsBudgets h k preds (setting_of k choice))

-- ---- bounds

-- each predicate is the top of its claim's paths
abbrev pub AreTops : Kernel → List Conjuncts → Type 0
AreTops k preds = AllZip (λ claim p. p.conjs ≡ top (paths_of k claim.target)) k.claims preds

-- no variable of theirs lies outside the needs
abbrev pub AreWithinNeeds : Kernel → List Conjuncts → Type 0
AreWithinNeeds k preds = AllZip (λ claim p. AllByRecursion (λ c. IsTrue (is_within c.vars.bits claim.needs.bits)) p.conjs) k.claims preds

-- every claim's bound holds, where the callees keep the bounds of their claims in use
abbrev pub BoundsHold : Hardware → Linked → Setting → Type 0
BoundsHold h l t =
    CalleesHold (functions l) (rate h (functions l) (settings l t)) l.kernel
    → AllByRecursion (BoundHolds (functions l) (rate h (functions l) (settings l t)) l.kernel (main l)) l.kernel.claims

-- under the setting of each choice that meets the rows
abbrev pub MeetingKeepsBounds : Hardware → Linked → List Conjuncts → Table → Type 0
MeetingKeepsBounds h l preds t =
    AreTops l.kernel preds → AreWithinNeeds l.kernel preds
    → (choice : List ℕ) → IsChoice t choice → Meets t choice → BoundsHold h l (setting_of l.kernel choice)
