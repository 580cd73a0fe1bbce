-- Faults of the layers below as refusals. Want of memory has no line, and no text within its limit is too long.
use Rattle.std.specs.Prelude.{Option, Some, None, Result, Ok, Err}
use Rattle.rely_hard.specs.declared.fault.HardFault.{HardFault}
use Rattle.rely_hard.specs.declared.fault.HardFault.TheVariants as hard
use Rattle.rely_inputs.specs.declared.fault.InputFault.{InputFault}
use Rattle.rely_inputs.specs.declared.fault.InputFault.TheVariants as input
use Rattle.rely_lexer.specs.declared.token.LexFault.{LexFault}
use Rattle.rely_lexer.specs.declared.token.LexFault.TheVariants as lex
use Rattle.rely_parser.specs.declared.fault.ParseFault.{ParseFault}
use Rattle.rely_parser.specs.declared.fault.ParseFault.TheVariants as parse
use Rattle.rely_resolve.specs.declared.fault.NameFault.{NameFault}
use Rattle.rely_resolve.specs.declared.fault.NameFault.TheVariants as name
use Rattle.chisel_lines.specs.declared.fault.Fault.{Fault}
use Rattle.chisel_lines.specs.declared.fault.Fault.TheVariants as fault
use Rattle.chisel_lines.specs.declared.refusal.Reason.TheVariants as reason
use Rattle.chisel_lines.specs.declared.refusal.Refusal.{Refusal}
use Rattle.chisel_lines.specs.declared.refusal.Refusal.TheVariants.{Source, Hardware, Inputs}
use Rattle.chisel_lines.specs.Faults.{Stop, Refused}
use Rattle.chisel_source.specs.declared.fault.MeaningFault.{MeaningFault}
use Rattle.chisel_source.specs.declared.fault.MeaningFault.TheVariants as meaning
use Rattle.chisel_source.specs.declared.fault.SourceFault.{SourceFault}
use Rattle.chisel_source.specs.declared.fault.SourceFault.TheVariants as source

abbrev pub lex_refusal : LexFault → Option Refusal
lex_refusal lex.TooLong = None
lex_refusal (lex.BadByte place) = Some (Source reason.Byte place)
lex_refusal (lex.NumberWide place) = Some (Source reason.Wide place)
lex_refusal lex.Memory = None

abbrev pub parse_refusal : ParseFault → Option Refusal
parse_refusal (parse.Expected place) = Some (Source reason.Expected place)
parse_refusal (parse.Deep place) = Some (Source reason.Deep place)
parse_refusal (parse.Many place) = Some (Source reason.Many place)
parse_refusal parse.Memory = None

-- why a source has no tree
abbrev pub source_refusal : SourceFault → Option Refusal
source_refusal (source.Lex fault) = lex_refusal fault
source_refusal (source.Parse fault) = parse_refusal fault

abbrev pub hardware_refusal : HardFault → Option Refusal
hardware_refusal (hard.At why key outer inner) = Some (Hardware why key outer inner)
hardware_refusal hard.Memory = None

abbrev pub name_refusal : NameFault → Option Refusal
name_refusal (name.Twice at) = Some (Source reason.Twice at.from)
name_refusal name.Function = Some (Source reason.Function 0)
name_refusal (name.ClaimParam at) = Some (Source reason.Claim at.from)
name_refusal (name.Unknown at) = Some (Source reason.Unknown at.from)
name_refusal (name.NotArray at) = Some (Source reason.NotArray at.from)
name_refusal (name.NotScalar at) = Some (Source reason.NotScalar at.from)
name_refusal (name.NoKind at) = Some (Source reason.NoKind at.from)
name_refusal (name.NoMemory at) = Some (Source reason.NoMemory at.from)
name_refusal (name.Limit at) = Some (Source reason.Store at.from)
name_refusal (name.NoCallee at) = Some (Source reason.NoCallee at.from)
name_refusal (name.Arity at) = Some (Source reason.Arity at.from)
name_refusal (name.ArrayParam at) = Some (Source reason.ArrayParam at.from)
name_refusal (name.NoClaim at) = Some (Source reason.NoClaim at.from)
name_refusal name.Memory = None

-- why a source means nothing on a hardware
abbrev pub meaning_refusal : MeaningFault → Option Refusal
meaning_refusal (meaning.Hardware fault) = hardware_refusal fault
meaning_refusal (meaning.Name fault) = name_refusal fault

-- why sample inputs are none
abbrev pub input_refusal : InputFault → Option Refusal
input_refusal (input.At why sample var) = Some (Inputs why sample var)
input_refusal input.Memory = None

-- ---- refused

-- a fault of a layer below ends the work
abbrev pub stopped_by : {A E : Type 0} → (E → Option Refusal) → Result A E → Result A Stop
stopped_by refusal (Ok a) = Ok a
stopped_by refusal (Err e) = Err (Refused (refusal e))

-- the fault that has the line of the refusal
abbrev pub fault_on : Option Refusal → Fault
fault_on (Some r) = fault.Refused r
fault_on None = fault.Memory
