-- Which settings fit a kernel on a hardware, and which places of a kernel are open.
use Rattle.std.specs.Prelude.{◌≡◌, ℕ, ◌≤◌, ◌<◌, List, [], ◌++◌, length, find, filter_map, All, Contains, Option, Some, None, IsTrue, nat_le, if◌then◌else◌}
use Rattle.std.specs.List.{AllByRecursion, AllZip, list_any}
use Rattle.std.specs.Option.{option_map_or}
use Rattle.rely_num.specs.Ops.{is_op}
use Rattle.rely_num.specs.declared.op.Op.{Op}
use Rattle.rely_num.specs.declared.span.Span.{Span}
use Rattle.rely_hard.specs.declared.hardware.Hardware.{Hardware}
use Rattle.rely_hard.specs.declared.hardware.KindSpec.{KindSpec}
use Rattle.rely_kernel.specs.declared.kernel.Kernel.{Kernel}
use Rattle.rely_kernel.specs.declared.kernel.Site.{Site}
use Rattle.rely_kernel.specs.declared.kernel.Slot.{Slot}
use Rattle.rely_kernel.specs.declared.kernel.Slot.TheVariants.{Named, Free}
use Rattle.rely_kernel.specs.declared.setting.Setting.{Setting}

-- ---- settings

-- the kinds that the hardware lists for an operator
abbrev pub kinds_of : Hardware → Op → List KindSpec
kinds_of h op = option_map_or (λ o. o.kinds) (find (λ o. is_op o.op op) h.operators) []

-- a kind for each site and a memory for each variable, by numbers that the hardware has
pub record Fits (k : Kernel) (h : Hardware) (t : Setting) : Type 0 where
  pub sites : AllZip (λ site kind. kind < length (kinds_of h site.op)) k.sites t.sites
  pub memories : AllZip (λ v memory. memory < length h.memories) k.vars t.memories

-- ---- places that are left open

-- the mark of a place, if it is open
abbrev pub open_mark : Slot → Span → Option Span
open_mark (Named n) mark = None
open_mark Free mark = Some mark

-- the marks of the open places: variables, then sites
abbrev pub marks_of : Kernel → List Span
marks_of k = filter_map (λ v. open_mark v.memory v.mark) k.vars ++ filter_map (λ site. open_mark site.kind site.mark) k.sites

-- each place is named
abbrev pub IsClosed : Kernel → Type 0
IsClosed k = marks_of k ≡ []

-- one of the marks, before which none begins
pub record IsEarliest (marks : List Span) (m : Span) : Type 0 where
  pub one_of_them : Contains marks m
  pub none_before : All (λ other. m.from ≤ other.from) marks

-- the earlier of two marks, the former where they begin together
abbrev pub earlier : Option Span → Span → Option Span
earlier None mark = Some mark
earlier (Some first) mark = Some (if nat_le first.from mark.from then first else mark)

-- the first mark once a place is taken in
abbrev pub with_place : Option Span → Slot → Span → Option Span
with_place first slot mark = option_map_or (earlier first) (open_mark slot mark) first

-- ---- a kernel of that hardware

-- the number of a named place is below n
abbrev pub SlotFits : ℕ → Slot → Type 0
SlotFits n (Named i) = i < n
SlotFits n Free = Unit {0}

-- the operator is listed, and a named kind is one of its kinds
abbrev pub SiteIsOn : Hardware → Site → Type 0
SiteIsOn h site = IsTrue (list_any (λ o. is_op o.op site.op) h.operators) × SlotFits (length (kinds_of h site.op)) site.kind

-- the kernel's operators, kinds and memories are the hardware's
pub record IsOn (h : Hardware) (k : Kernel) : Type 0 where
  pub sites : AllByRecursion (SiteIsOn h) k.sites
  pub memories : AllByRecursion (λ v. SlotFits (length h.memories) v.memory) k.vars
