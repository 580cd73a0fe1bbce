-- What runs cost in energy: each chance step that of its kind or memory, and each variable for being held.
use Rattle.std.specs.Prelude.{ℕ, ◌≡◌, ◌+◌, ◌*◌, List, find, sum, sum_by, slice_get, slice_index}
use Rattle.std.specs.List.{AllZip, zip}
use Rattle.std.specs.Option.{option_map_or}
use Rattle.rely_num.specs.Ops.{is_op}
use Rattle.rely_hard.specs.declared.hardware.Hardware.{Hardware}
use Rattle.rely_kernel.specs.declared.kernel.Kernel.{Kernel}
use Rattle.rely_kernel.specs.declared.kernel.Linked.{Linked}
use Rattle.rely_kernel.specs.declared.kernel.Site.{Site}
use Rattle.rely_kernel.specs.declared.label.Label.{Label}
use Rattle.rely_kernel.specs.declared.label.Label.TheVariants as label
use Rattle.rely_kernel.specs.declared.setting.Setting.{Setting}
use Rattle.rely_kernel.specs.declared.setting.Store.{Store}
use Rattle.rely_kernel.specs.Machine.{Config, functions, passed, trace, size}
use Rattle.rely_kernel.specs.Rates.{settings}
use Rattle.rely_machine.specs.Run.{IsRun, called, first}

-- ---- one step

-- the energy of the kind of that number of the site's operator
abbrev pub kind_energy : Hardware → ℕ → Site → ℕ
kind_energy h kind site =
    option_map_or (λ o. option_map_or (λ s. s.energy) (slice_get o.kinds kind) 0) (find (λ o. is_op o.op site.op) h.operators) 0

-- the energy of a step with that label
abbrev pub energy_of : Hardware → Kernel → Setting → Label → ℕ
energy_of h k t (label.Op site) = option_map_or (kind_energy h (slice_index t.sites site)) (slice_get k.sites site) 0
energy_of h k t (label.Read v) = option_map_or (λ m. m.read_energy) (slice_get h.memories (slice_index t.memories v)) 0
energy_of h k t (label.Write v) = option_map_or (λ m. m.write_energy) (slice_get h.memories (slice_index t.memories v)) 0
energy_of h k t (label.Call place) = 0

abbrev pub step_energy : Hardware → List Kernel → List Setting → ℕ × Label → ℕ
step_energy h fs ts m = option_map_or (λ k. option_map_or (λ t. energy_of h k t m.1) (slice_get ts m.0) 0) (slice_get fs m.0) 0

-- ---- holding

-- the hold energy of a memory
abbrev pub held : Hardware → ℕ → ℕ
held h memory = option_map_or (λ m. m.hold) (slice_get h.memories memory) 0

-- what it costs to hold a function's variables: the length of each times the hold energy of its memory
abbrev pub hold : Hardware → Kernel → Setting → ℕ
hold h k t = sum_by (λ x. size x.0 * held h x.1) (zip k.vars t.memories)

abbrev pub hold_at : Hardware → List Kernel → List Setting → ℕ → ℕ
hold_at h fs ts f = option_map_or (λ k. option_map_or (hold h k) (slice_get ts f) 0) (slice_get fs f) 0

-- where a function is called, its variables are held
abbrev pub call_energy : Hardware → List Kernel → List Setting → Config → ℕ
call_energy h fs ts c = option_map_or (hold_at h fs ts) (called fs c.function c.items) 0

-- ---- runs

-- the cost of the first n steps from a start, and of holding the function's own variables
abbrev pub cost_after : Hardware → Linked → Setting → ℕ → Store → ℕ
cost_after h l t n start =
    hold h l.kernel t
    + sum_by (step_energy h (functions l) (settings l t)) (trace (functions l) n (first l start))
    + sum_by (call_energy h (functions l) (settings l t)) (passed (functions l) n (first l start))

-- the cost of the reliable run from a start
pub record IsRunCost (h : Hardware) (l : Linked) (t : Setting) (start : Store) (cost : ℕ) : Type 0 where
  pub n : ℕ
  pub end : Config
  pub run : IsRun l start n end
  pub is : cost ≡ cost_after h l t n start

-- the cost of a setting over samples is that of the reliable runs from them all
pub record IsCost (h : Hardware) (l : Linked) (t : Setting) (starts : List Store) (cost : ℕ) : Type 0 where
  pub costs : List ℕ
  pub each : AllZip (IsRunCost h l t) starts costs
  pub is : cost ≡ sum costs
