-- The faults of the layers below, as what ends the work.
use Rattle.std.proofs.Common.{◌≡◌, Result, Err, ap, ◌⊎◌, inl, inr}
use Rattle.rely_inputs.specs.declared.fault.InputFault.{InputFault}
use Rattle.rely_inputs.specs.declared.fault.InputFault.TheVariants as input
use Rattle.chisel_source.specs.declared.fault.MeaningFault.{MeaningFault}
use Rattle.chisel_source.specs.declared.fault.SourceFault.{SourceFault}
use Rattle.chisel_source.specs.Meaning.{MeaningFails, SourceFails}
use Rattle.chisel_files.specs.Refused.{fault_on, input_refusal, meaning_refusal, source_refusal, stopped_by}
use Rattle.chisel_files.specs.Works.{Comes}
use Rattle.chisel_files.proofs.Working.{memory_comes, refused_comes}

pub source_comes : {A : Type 0} (x : Result A SourceFault) (f : SourceFault) → SourceFails x f → Comes {A = A} (stopped_by source_refusal x) (Err (fault_on (source_refusal f)))
source_comes x f (inl (inl m)) = memory_comes source_refusal x f (ap source_refusal m)
source_comes x f (inl (inr m)) = memory_comes source_refusal x f (ap source_refusal m)
source_comes x f (inr e) = refused_comes source_refusal x f e

pub meaning_comes : {A : Type 0} (x : Result A MeaningFault) (f : MeaningFault) → MeaningFails x f → Comes {A = A} (stopped_by meaning_refusal x) (Err (fault_on (meaning_refusal f)))
meaning_comes x f (inl (inl m)) = memory_comes meaning_refusal x f (ap meaning_refusal m)
meaning_comes x f (inl (inr m)) = memory_comes meaning_refusal x f (ap meaning_refusal m)
meaning_comes x f (inr e) = refused_comes meaning_refusal x f e

pub input_comes : {A : Type 0} (x : Result A InputFault) (f : InputFault) → (f ≡ input.Memory) ⊎ (x ≡ Err f) → Comes {A = A} (stopped_by input_refusal x) (Err (fault_on (input_refusal f)))
input_comes x f (inl m) = memory_comes input_refusal x f (ap input_refusal m)
input_comes x f (inr e) = refused_comes input_refusal x f e
