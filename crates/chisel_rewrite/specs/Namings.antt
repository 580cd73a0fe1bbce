-- The open places of a kernel in order of the text, each with the option that a choice has for it.
use Rattle.std.specs.Prelude.{ℕ, ◌<◌, Bool, true, false, List, ◌++◌, length, map, drop, filter}
use Rattle.std.specs.List.{zip}
use Rattle.rely_num.specs.declared.span.Span.{Span}
use Rattle.rely_hard.specs.declared.hardware.Hardware.{Hardware}
use Rattle.rely_kernel.specs.declared.kernel.Kernel.{Kernel}
use Rattle.rely_kernel.specs.declared.kernel.Site.{Site}
use Rattle.rely_kernel.specs.declared.kernel.Slot.{Slot}
use Rattle.rely_kernel.specs.declared.kernel.Slot.TheVariants.{Named, Free}
use Rattle.rely_kernel.specs.declared.kernel.Var.{Var}
use Rattle.rely_kernel.specs.Setting.{kinds_of}
use Rattle.chisel_rewrite.specs.declared.naming.Naming.{Naming}
use Rattle.chisel_rewrite.specs.declared.naming.Naming.TheVariants.{Kind, Memory}

abbrev pub is_open : Slot → Bool
is_open (Named n) = false
is_open Free = true

abbrev pub open_sites : List Site → List Site
open_sites = filter (λ site. is_open site.kind)

abbrev pub open_vars : List Var → List Var
open_vars = filter (λ v. is_open v.memory)

-- the open sites in order, each with its option
abbrev pub kind_namings : List Site → List ℕ → List Naming
kind_namings sites options = map (λ p. Kind p.0.mark p.0.op p.1) (zip (open_sites sites) options)

-- the open variables in order, each with its option
abbrev pub memory_namings : List Var → List ℕ → List Naming
memory_namings vars options = map (λ p. Memory p.0.mark p.1) (zip (open_vars vars) options)

-- a choice has the options of the sites before those of the variables; a text has the marks of the variables before those of the sites
abbrev pub namings : Kernel → List ℕ → List Naming
namings k choice = memory_namings k.vars (drop (length (open_sites k.sites)) choice) ++ kind_namings k.sites choice

-- the `?` that gives way to the name
abbrev pub mark_of : Naming → Span
mark_of (Kind mark op option) = mark
mark_of (Memory mark option) = mark

-- the hardware lists the option
abbrev pub IsListed : Hardware → Naming → Type 0
IsListed h (Kind mark op option) = option < length (kinds_of h op)
IsListed h (Memory mark option) = option < length h.memories
