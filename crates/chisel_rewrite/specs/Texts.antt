-- The text of a source in which open marks are named.
use Rattle.std.specs.Prelude.{ℕ, List, [], ◌∷◌, ◌++◌, drop, codes, slice_get}
use Rattle.std.specs.List.{slice_range}
use Rattle.std.specs.Option.{option_map_or}
use Rattle.rely_num.specs.Texts.{Bytes}
use Rattle.rely_hard.specs.declared.hardware.Hardware.{Hardware}
use Rattle.rely_kernel.specs.declared.kernel.Kernel.{Kernel}
use Rattle.rely_kernel.specs.Setting.{kinds_of}
use Rattle.chisel_rewrite.specs.declared.naming.Naming.{Naming}
use Rattle.chisel_rewrite.specs.declared.naming.Naming.TheVariants.{Kind, Memory}
use Rattle.chisel_rewrite.specs.Namings.{mark_of, namings}

-- the name of the option
abbrev pub name_of : Hardware → Naming → Bytes
name_of h (Kind mark op option) = option_map_or (λ kind. kind.name) (slice_get (kinds_of h op) option) []
name_of h (Memory mark option) = option_map_or (λ memory. memory.name) (slice_get h.memories option) []

-- before the name stands a point, or a blank
abbrev pub front_of : Naming → Bytes
front_of (Kind mark op option) = codes "."
front_of (Memory mark option) = codes " "

-- behind the name stands a blank, or nothing
abbrev pub back_of : Naming → Bytes
back_of (Kind mark op option) = codes " "
back_of (Memory mark option) = []

-- what stands in the place of the mark
abbrev pub text_of : Hardware → Naming → Bytes
text_of h n = front_of n ++ name_of h n ++ back_of n

-- a text from a place on with these marks named, which stand there in rising places; every other byte stays
abbrev pub named : Hardware → Bytes → ℕ → List Naming → Bytes
named h text place [] = drop place text
named h text place (n ∷ ns) = slice_range text place (mark_of n).from ++ (text_of h n ++ named h text (mark_of n).to ns)

-- the source of a kernel with the choice named at each open mark
abbrev pub rewritten : Bytes → Kernel → Hardware → List ℕ → Bytes
rewritten text k h choice = named h text 0 (namings k choice)
