-- What holds of every run and of what runs cost.
use Rattle.std.specs.Prelude.{◌≡◌, ℕ, ◌^◌, ◌<◌, ◌≤◌, ◌↔◌, List, length, sum_by}
use Rattle.std.specs.List.{AllZip}
use Rattle.rely_hard.specs.declared.hardware.Hardware.{Hardware}
use Rattle.rely_hard.specs.Valid.{IsHardware}
use Rattle.rely_kernel.specs.declared.kernel.Linked.{Linked}
use Rattle.rely_kernel.specs.declared.setting.Setting.{Setting}
use Rattle.rely_kernel.specs.declared.setting.Store.{Store}
use Rattle.rely_kernel.specs.Bound.{IsStart}
use Rattle.rely_kernel.specs.Valid.{IsLinked}
use Rattle.rely_machine.specs.declared.outcome.Outcome.{Outcome}
use Rattle.rely_machine.specs.Cost.{IsCost}
use Rattle.rely_machine.specs.EnergySums.{of_runs}
use Rattle.rely_machine.specs.Run.{AreRuns, IsOutcome, ReachesLimit, most_runs, steps_limit}

-- ---- runs

-- each start of a linked function has an outcome
abbrev pub HasOutcome : Type 0
HasOutcome = (l : Linked) (start : Store) → IsLinked l → IsStart l.kernel start → (o : Outcome) × IsOutcome l start o

-- and no other
abbrev pub OneOutcome : Type 0
OneOutcome = (l : Linked) (start : Store) (o o' : Outcome) → IsOutcome l start o → IsOutcome l start o' → o ≡ o'

-- the run reaches a limit exactly where its outcome has as many steps; so a run that ends below it never does
abbrev pub ReachesByOutcome : Type 0
ReachesByOutcome =
    (l : Linked) (start : Store) (o : Outcome) (limit : ℕ) → IsOutcome l start o
    → (ReachesLimit l start limit ↔ (limit ≤ o.steps))

-- ---- costs

-- a setting has one cost over some starts
abbrev pub OneCost : Type 0
OneCost =
    (h : Hardware) (l : Linked) (t : Setting) (starts : List Store) (cost cost' : ℕ)
    → IsCost h l t starts cost → IsCost h l t starts cost' → cost ≡ cost'

-- it is the sum of what was counted, times the energies
abbrev pub CostByUses : Type 0
CostByUses =
    (h : Hardware) (l : Linked) (t : Setting) (starts : List Store) (runs : List Outcome)
    → IsLinked l → AllZip (IsOutcome l) starts runs → IsCost h l t starts (of_runs h l t runs)

-- what few and short runs cost less than
abbrev pub cost_limit : ℕ
cost_limit = 2 ^ 48

-- under every setting
abbrev pub CostIsBounded : Type 0
CostIsBounded =
    (h : Hardware) (l : Linked) (t : Setting) (runs : List Outcome)
    → IsHardware h → IsLinked l → AreRuns l runs → length runs ≤ most_runs → sum_by (λ o. o.steps) runs < steps_limit
    → of_runs h l t runs < cost_limit
