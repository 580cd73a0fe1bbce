-- What a kernel leaves open, the options there, and the setting that a choice of them makes.
use Rattle.std.specs.Prelude.{◌≡◌, ℕ, ◌<◌, ◌↔◌, List, [], ◌∷◌, ◌++◌, length, map, drop, filter_map, slice_get, slice_index, Option, Some, None}
use Rattle.std.specs.List.{AllZip, enumerate_from}
use Rattle.std.specs.Option.{option_map_or}
use Rattle.rely_hard.specs.declared.hardware.Hardware.{Hardware}
use Rattle.rely_kernel.specs.declared.kernel.Kernel.{Kernel}
use Rattle.rely_kernel.specs.declared.kernel.Slot.{Slot}
use Rattle.rely_kernel.specs.declared.kernel.Slot.TheVariants.{Named, Free}
use Rattle.rely_kernel.specs.declared.setting.Setting.{Setting}
use Rattle.rely_kernel.specs.Rates.{own}
use Rattle.rely_kernel.specs.Setting.{Fits, IsClosed, IsOn, kinds_of}

-- ---- decisions

-- what is to be chosen: the kind of the site with that number, or the memory of the variable
pub data Decision : Type 0 where
  KindOf : ℕ → Decision
  MemoryOf : ℕ → Decision

-- the decision at a place, if it is open
abbrev pub decision_at : Slot → Decision → Option Decision
decision_at (Named n) d = None
decision_at Free d = Some d

-- the open sites in order
abbrev pub open_sites : Kernel → List Decision
open_sites k = filter_map (λ x. decision_at x.1.kind (KindOf x.0)) (enumerate_from 0 k.sites)

-- the open variables in order
abbrev pub open_vars : Kernel → List Decision
open_vars k = filter_map (λ x. decision_at x.1.memory (MemoryOf x.0)) (enumerate_from 0 k.vars)

-- sites, then variables
abbrev pub decisions : Kernel → List Decision
decisions k = open_sites k ++ open_vars k

-- ---- choices

-- how many options a decision has: the kinds of the site's operator, or the memories
abbrev pub options : Kernel → Hardware → Decision → ℕ
options k h (KindOf site) = option_map_or (λ s. length (kinds_of h s.op)) (slice_get k.sites site) 0
options k h (MemoryOf v) = length h.memories

-- an option of each decision, by its number
abbrev pub IsChoice : Kernel → Hardware → List ℕ → Type 0
IsChoice k h choice = AllZip (λ d option. option < options k h d) (decisions k) choice

-- ---- the setting of a choice

-- what places have: those that are named their own number, and the open ones the options in their order
abbrev pub filled : List Slot → List ℕ → List ℕ
filled [] choice = []
filled (Named n ∷ slots) choice = n ∷ filled slots choice
filled (Free ∷ slots) choice = slice_index choice 0 ∷ filled slots (drop 1 choice)

abbrev pub setting_of : Kernel → List ℕ → Setting
setting_of k choice = record {
  sites = filled (map (λ s. s.kind) k.sites) choice;
  memories = filled (map (λ v. v.memory) k.vars) (drop (length (open_sites k)) choice);
}

-- ---- what it is

-- the number that a setting has at the place of a decision
abbrev pub number_at : Setting → Decision → ℕ
number_at t (KindOf site) = slice_index t.sites site
number_at t (MemoryOf v) = slice_index t.memories v

-- a place that is named has its own number
abbrev pub Keeps : Slot → ℕ → Type 0
Keeps (Named n) number = number ≡ n
Keeps Free number = Unit {0}

-- each decision's option at its place, and what is named at all others
pub record IsSettingOf (k : Kernel) (choice : List ℕ) (t : Setting) : Type 0 where
  pub options : map (number_at t) (decisions k) ≡ choice
  pub kinds : AllZip (λ site kind. Keeps site.kind kind) k.sites t.sites
  pub memories : AllZip (λ v memory. Keeps v.memory memory) k.vars t.memories

-- ---- laws

-- one setting is that of the choice
abbrev pub ChoiceHasSetting : Type 0
ChoiceHasSetting =
    (k : Kernel) (choice : List ℕ) (t : Setting) → length choice ≡ length (decisions k)
    → (IsSettingOf k choice t ↔ (t ≡ setting_of k choice))

-- it fits a kernel of the hardware
abbrev pub ChoiceFits : Type 0
ChoiceFits =
    (h : Hardware) (k : Kernel) (choice : List ℕ) → IsOn h k → IsChoice k h choice → Fits k h (setting_of k choice)

-- a kernel that leaves nothing open has no decision, and the setting of the empty choice is its own
abbrev pub ClosedHasOwn : Type 0
ClosedHasOwn = (k : Kernel) → (IsClosed k ↔ (decisions k ≡ [])) × (IsClosed k → setting_of k [] ≡ own k)
