-- Which kernels have no table: there is nothing to decide, or there are too many decisions or options.
use Rattle.std.specs.Prelude.{◌≡◌, ◌<◌, ◌≤◌, ◌&&◌, Bool, true, false, [], length, IsTrue, nat_lt}
use Rattle.std.specs.List.{list_any}
use Rattle.rely_hard.specs.declared.hardware.Hardware.{Hardware}
use Rattle.rely_kernel.specs.declared.kernel.Kernel.{Kernel}
use Rattle.rely_kernel.specs.declared.kernel.Slot.{Slot}
use Rattle.rely_kernel.specs.declared.kernel.Slot.TheVariants.{Named, Free}
use Rattle.rely_kernel.specs.Choice.{decisions, options}
use Rattle.rely_kernel.specs.Setting.{kinds_of}
use Rattle.chisel_table.specs.declared.table.TheConstants.{MAX_DECISIONS, MAX_OPTIONS}

abbrev pub is_open : Slot → Bool
is_open (Named n) = false
is_open Free = true

abbrev pub NothingIsOpen : Kernel → Type 0
NothingIsOpen k = decisions k ≡ []

-- there is a decision after the most that a table has
abbrev pub HasManyDecisions : Kernel → Type 0
HasManyDecisions k = MAX_DECISIONS < length (decisions k)

-- a decision has an option after the most that a decision has
abbrev pub has_wide_decision : Hardware → Kernel → Bool
has_wide_decision h k = list_any (λ d. nat_lt MAX_OPTIONS (options k h d)) (decisions k)

-- it is of a site
abbrev pub has_wide_site : Hardware → Kernel → Bool
has_wide_site h k = list_any (λ s. is_open s.kind && nat_lt MAX_OPTIONS (length (kinds_of h s.op))) k.sites

-- or of a variable
abbrev pub has_wide_variable : Hardware → Kernel → Bool
has_wide_variable h k = list_any (λ v. is_open v.memory && nat_lt MAX_OPTIONS (length h.memories)) k.vars

-- there are few decisions, and one of them has too many options
pub record HasManyOptions (h : Hardware) (k : Kernel) : Type 0 where
  pub few_decisions : length (decisions k) ≤ MAX_DECISIONS
  pub wide : IsTrue (has_wide_decision h k)
