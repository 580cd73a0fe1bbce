-- What a source means on a hardware, from the bytes of the two files.
use Rattle.std.specs.Prelude.{◌≡◌, Result, Ok, Err, ◌⊎◌}
use Rattle.std.specs.List.{AllByRecursion}
use Rattle.rely_num.specs.OpenMarks.{AreOpenMarks}
use Rattle.rely_num.specs.Texts.{Bytes}
use Rattle.rely_lexer.specs.Tokens.{tokens_of}
use Rattle.rely_lexer.specs.declared.token.LexFault.TheVariants as lex
use Rattle.rely_parser.specs.Units.{unit_of}
use Rattle.rely_parser.specs.declared.fault.ParseFault.TheVariants as parse
use Rattle.rely_tree.specs.Tree.{UnitTree}
use Rattle.rely_hard.specs.Meaning.{hardware_of}
use Rattle.rely_hard.specs.Valid.{IsHardware}
use Rattle.rely_hard.specs.declared.fault.HardFault.TheVariants as hard
use Rattle.rely_hard.specs.declared.hardware.Hardware.{Hardware}
use Rattle.rely_kernel.specs.declared.kernel.Linked.{Linked}
use Rattle.rely_kernel.specs.Machine.{functions}
use Rattle.rely_kernel.specs.Setting.{IsClosed, IsOn, marks_of}
use Rattle.rely_kernel.specs.Valid.{IsLinked}
use Rattle.rely_resolve.specs.Linked.{linked_of}
use Rattle.rely_resolve.specs.declared.fault.NameFault.TheVariants as name
use Rattle.chisel_source.specs.declared.fault.MeaningFault.{MeaningFault}
use Rattle.chisel_source.specs.declared.fault.MeaningFault.TheVariants as meaning_fault
use Rattle.chisel_source.specs.declared.fault.SourceFault.{SourceFault}
use Rattle.chisel_source.specs.declared.fault.SourceFault.TheVariants as source_fault
use Rattle.chisel_source.specs.declared.ready.Meant.{Meant}
use Rattle.chisel_source.specs.declared.ready.Ready.{Ready}

-- ---- one step after another

infixl 10 ◌>>=◌
abbrev pub ◌>>=◌ : {A B E : Type 0} → Result A E → (A → Result B E) → Result B E
Ok a >>= f = f a
Err e >>= f = Err e

-- a fault of one step as one of the whole
abbrev pub fault_by : {A E F : Type 0} → (E → F) → Result A E → Result A F
fault_by as_fault (Ok a) = Ok a
fault_by as_fault (Err e) = Err (as_fault e)

-- ---- meanings

-- the tree of the bytes of a source
abbrev pub unit_in : Bytes → Result UnitTree SourceFault
unit_in text = fault_by source_fault.Lex (tokens_of text) >>= λ tokens. fault_by source_fault.Parse (unit_of text tokens)

-- the function with those that it reaches, on the hardware of these bytes
abbrev pub meaning : UnitTree → Bytes → Bytes → Result Meant MeaningFault
meaning unit function bytes =
    fault_by meaning_fault.Hardware (hardware_of bytes) >>= λ h.
    fault_by meaning_fault.Name (linked_of unit function h) >>= λ l. Ok (record { hardware = h; linked = l })

abbrev pub ready_by : Bytes → Meant → Ready
ready_by text m = record { text = text; hardware = m.hardware; linked = m.linked }

-- ---- why there is none

-- want of memory
abbrev pub IsSourceMemory : SourceFault → Type 0
IsSourceMemory f = (f ≡ source_fault.Lex lex.Memory) ⊎ (f ≡ source_fault.Parse parse.Memory)

abbrev pub IsMeaningMemory : MeaningFault → Type 0
IsMeaningMemory f = (f ≡ meaning_fault.Hardware hard.Memory) ⊎ (f ≡ meaning_fault.Name name.Memory)

-- the fault is that of the bytes, or want of memory
abbrev pub SourceFails : {A : Type 0} → Result A SourceFault → SourceFault → Type 0
SourceFails x f = IsSourceMemory f ⊎ (x ≡ Err f)

abbrev pub MeaningFails : {A : Type 0} → Result A MeaningFault → MeaningFault → Type 0
MeaningFails x f = IsMeaningMemory f ⊎ (x ≡ Err f)

-- ---- what is ready

-- the hardware is valid, and so are the kernels on it, which are linked
pub record AreSound (h : Hardware) (l : Linked) : Type 0 where
  pub hardware : IsHardware h
  pub linked : IsLinked l
  pub on : AllByRecursion (IsOn h) (functions l)

abbrev pub IsMeant : Meant → Type 0
IsMeant m = AreSound m.hardware m.linked

-- so they are, and the open marks of the function are one byte `?` each, in rising places of the source
pub record IsReady (r : Ready) : Type 0 where
  pub hardware : IsHardware r.hardware
  pub linked : IsLinked r.linked
  pub on : AllByRecursion (IsOn r.hardware) (functions r.linked)
  pub marks : AreOpenMarks r.text (marks_of r.linked.kernel)

-- no place is open, neither in the function nor in those that it reaches
abbrev pub AreClosed : Linked → Type 0
AreClosed l = AllByRecursion IsClosed (functions l)
