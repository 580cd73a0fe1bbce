-- What the commands begin with, as work over files.
use Rattle.std.specs.Prelude.{ℕ, Option, Some, None, Result, Ok, Err, List}
use Rattle.rely_num.specs.Texts.{Bytes}
use Rattle.rely_kernel.specs.declared.kernel.Kernel.{Kernel}
use Rattle.rely_kernel.specs.declared.setting.Store.{Store}
use Rattle.rely_kernel.specs.Machine.{functions}
use Rattle.rely_tree.specs.Tree.{UnitTree}
use Rattle.rely_inputs.specs.Samples.{samples_of}
use Rattle.chisel_lines.specs.declared.refusal.Reason.TheVariants.{Mark}
use Rattle.chisel_lines.specs.declared.refusal.Refusal.TheVariants.{Source}
use Rattle.chisel_lines.specs.Faults.{Stop, Refused}
use Rattle.chisel_source.specs.declared.ready.Meant.{Meant}
use Rattle.chisel_source.specs.declared.ready.Ready.{Ready}
use Rattle.chisel_source.specs.Meaning.{meaning, ready_by, unit_in}
use Rattle.chisel_source.specs.Open.{open_place_in}
use Rattle.chisel_files.specs.Files.{file, longest, longest_inputs}
use Rattle.chisel_files.specs.Refused.{input_refusal, meaning_refusal, source_refusal, stopped_by}
use Rattle.chisel_files.specs.Works.{Done, Work, ◌then◌}

-- what the hardware's bytes make of a tree
abbrev pub meaning_in : UnitTree → Bytes → Bytes → Work Meant
meaning_in unit function bytes = Done (stopped_by meaning_refusal (meaning unit function bytes))

abbrev pub hardware_work : Bytes → Bytes → UnitTree → Work Meant
hardware_work hardware function unit = file hardware longest then meaning_in unit function

-- the source is read before the hardware is opened
abbrev pub meant_work : Bytes → Bytes → Bytes → Work Meant
meant_work text hardware function = Done (stopped_by source_refusal (unit_in text)) then hardware_work hardware function

abbrev pub kept_with : Bytes → Meant → Work Ready
kept_with text m = Done (Ok (ready_by text m))

abbrev pub source_work : Bytes → Bytes → Bytes → Work Ready
source_work hardware function text = meant_work text hardware function then kept_with text

-- a source, its hardware, and the function of that name
abbrev pub ready_work : Bytes → Bytes → Bytes → Work Ready
ready_work source hardware function = file source longest then source_work hardware function

-- ---- marks

-- no place is open
abbrev pub unless_open : {A : Type 0} → Option ℕ → A → Result A Stop
unless_open None a = Ok a
unless_open (Some place) a = Err (Refused (Some (Source Mark place)))

abbrev pub closing : Ready → Result Ready Stop
closing r = unless_open (open_place_in (functions r.linked)) r

abbrev pub marks_in : Ready → Work Ready
marks_in r = Done (closing r)

abbrev pub closed_work : Bytes → Bytes → Bytes → Work Ready
closed_work source hardware function = ready_work source hardware function then marks_in

-- ---- inputs

-- where a function starts
abbrev pub starts_in : Kernel → Bytes → Work (List Store)
starts_in k bytes = Done (stopped_by input_refusal (samples_of k bytes))

abbrev pub starts_work : Kernel → Bytes → Work (List Store)
starts_work k inputs = file inputs longest_inputs then starts_in k
