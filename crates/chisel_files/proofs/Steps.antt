-- What the parts that fetch do, as work over files.
use Rattle.std.proofs.Common.{◌≡◌, List, Option, Result, Ok, Err, refl, sym, ap, subst, ◌∙◌, ◌⊎◌}
use Rattle.rely_num.specs.Texts.{Bytes}
use Rattle.rely_inputs.specs.Samples.{samples_of}
use Rattle.rely_inputs.specs.declared.fault.InputFault.{InputFault}
use Rattle.rely_inputs.specs.declared.fault.InputFault.TheVariants as input
use Rattle.rely_kernel.specs.declared.kernel.Kernel.{Kernel}
use Rattle.rely_kernel.specs.declared.setting.Store.{Store}
use Rattle.rely_tree.specs.Tree.{UnitTree}
use Rattle.chisel_lines.specs.declared.fault.Fault.{Fault}
use Rattle.chisel_lines.specs.declared.refusal.Refusal.{Refusal}
use Rattle.chisel_outside.specs.Outside.{Log}
use Rattle.chisel_source.specs.declared.fault.MeaningFault.{MeaningFault}
use Rattle.chisel_source.specs.declared.fault.SourceFault.{SourceFault}
use Rattle.chisel_source.specs.declared.ready.Meant.{Meant}
use Rattle.chisel_source.specs.declared.ready.Ready.{Ready}
use Rattle.chisel_source.specs.Meaning.{MeaningFails, SourceFails, meaning, ready_by, unit_in}
use Rattle.chisel_files.specs.Files.{file, longest, longest_inputs}
use Rattle.chisel_files.specs.Front.{closed_work, closing, hardware_work, kept_with, marks_in, meaning_in, meant_work, ready_work, source_work, starts_in, starts_work}
use Rattle.chisel_files.specs.Refused.{fault_on, input_refusal, meaning_refusal, source_refusal, stopped_by}
use Rattle.chisel_files.specs.Works.{Comes, Content, Works}
use Rattle.chisel_files.proofs.Refusing.{input_comes, meaning_comes, source_comes}
use Rattle.chisel_files.proofs.Working.{works_ends, works_goes, works_last, works_same, works_stop, works_then}

-- ---- a source and its hardware

module _ (held : Bytes → Option Content) (old new : Log) (text hardware function : Bytes) where
  pub source_ends : (f : SourceFault) (o : Option Refusal) (e : Fault) → SourceFails (unit_in text) f → o ≡ source_refusal f → e ≡ fault_on o → Works held old old (meant_work text hardware function) (Err e)
  source_ends f o e fails is same =
      subst (λ g. Works held old old (meant_work text hardware function) (Err g)) (sym (same ∙ ap fault_on is))
      (works_ends held old (stopped_by source_refusal (unit_in text)) (hardware_work hardware function) (fault_on (source_refusal f)) (source_comes (unit_in text) f fails))

  module _ (u : UnitTree) (read : unit_in text ≡ Ok u) where
    after_source : (r : Result Meant Fault) → Works held old new (hardware_work hardware function u) r → Works held old new (meant_work text hardware function) r
    after_source r works = works_goes held old new (stopped_by source_refusal (unit_in text)) (hardware_work hardware function) u r (ap (stopped_by source_refusal) read) works

    pub hardware_stops : (e : Fault) → Works held old new (file hardware longest) (Err e) → Works held old new (meant_work text hardware function) (Err e)
    hardware_stops e works = after_source (Err e) (works_stop held old new (file hardware longest) (meaning_in u function) e works)

    pub meaning_ends : (bytes given : Bytes) (f : MeaningFault) (o : Option Refusal) (e : Fault) → Works held old new (file hardware longest) (Ok bytes) → given ≡ bytes → MeaningFails (meaning u function given) f → o ≡ meaning_refusal f → e ≡ fault_on o
        → Works held old new (meant_work text hardware function) (Err e)
    meaning_ends bytes given f o e works slice fails is same =
        after_source (Err e)
        (works_last held old new (file hardware longest) (meaning_in u function) bytes (stopped_by meaning_refusal (meaning u function bytes)) (Err e) works refl
        (subst (λ g. Comes {A = Meant} (stopped_by meaning_refusal (meaning u function bytes)) (Err g)) (sym (same ∙ ap fault_on is)) (meaning_comes (meaning u function bytes) f (subst (λ b. MeaningFails (meaning u function b) f) slice fails))))

    pub meant_done : (bytes given : Bytes) (m : Meant) → Works held old new (file hardware longest) (Ok bytes) → given ≡ bytes → meaning u function given ≡ Ok m → Works held old new (meant_work text hardware function) (Ok m)
    meant_done bytes given m works slice is =
        after_source (Ok m) (works_last held old new (file hardware longest) (meaning_in u function) bytes (stopped_by meaning_refusal (meaning u function bytes)) (Ok m) works refl (ap (λ b. stopped_by meaning_refusal (meaning u function b)) (sym slice) ∙ ap (stopped_by meaning_refusal) is))

module _ (held : Bytes → Option Content) (source hardware function : Bytes) where
  pub source_stops : (old new : Log) (e : Fault) → Works held old new (file source longest) (Err e) → Works held old new (ready_work source hardware function) (Err e)
  source_stops old new e works = works_stop held old new (file source longest) (source_work hardware function) e works

  module _ (now : Bytes → Option Content) (old mid new : Log) (text given : Bytes) (same : (n : Bytes) → now n ≡ held n) (read : Works held old mid (file source longest) (Ok text)) (slice : given ≡ text) where
    given_work : (r : Result Meant Fault) → Works now mid new (meant_work given hardware function) r → Works held mid new (meant_work text hardware function) r
    given_work r works = works_same held now mid new (meant_work text hardware function) r same (subst (λ b. Works now mid new (meant_work b hardware function) r) slice works)

    pub meant_stops : (e : Fault) → Works now mid new (meant_work given hardware function) (Err e) → Works held old new (ready_work source hardware function) (Err e)
    meant_stops e works =
        works_then held old mid new (file source longest) (source_work hardware function) text (Err e) read
        (works_stop held mid new (meant_work text hardware function) (kept_with text) e (given_work (Err e) works))

    pub ready_done : (m : Meant) (r : Ready) → Works now mid new (meant_work given hardware function) (Ok m) → r ≡ ready_by text m → Works held old new (ready_work source hardware function) (Ok r)
    ready_done m r works is =
        works_then held old mid new (file source longest) (source_work hardware function) text (Ok r) read
        (works_last held mid new (meant_work text hardware function) (kept_with text) m (Ok (ready_by text m)) (Ok r) (given_work (Ok m) works) refl (ap Ok (sym is)))

  -- ---- marks

  pub ready_stops : (old new : Log) (e : Fault) → Works held old new (ready_work source hardware function) (Err e) → Works held old new (closed_work source hardware function) (Err e)
  ready_stops old new e works = works_stop held old new (ready_work source hardware function) marks_in e works

  pub marks_come : (old new : Log) (r : Ready) (x : Result Ready Fault) → Works held old new (ready_work source hardware function) (Ok r) → Comes (closing r) x → Works held old new (closed_work source hardware function) x
  marks_come old new r x works comes = works_last held old new (ready_work source hardware function) marks_in r (closing r) x works refl comes

-- ---- inputs

module _ (held : Bytes → Option Content) (old new : Log) (k : Kernel) (inputs : Bytes) where
  pub inputs_stop : (e : Fault) → Works held old new (file inputs longest_inputs) (Err e) → Works held old new (starts_work k inputs) (Err e)
  inputs_stop e works = works_stop held old new (file inputs longest_inputs) (starts_in k) e works

  pub starts_done : (bytes given : Bytes) (ss : List Store) → Works held old new (file inputs longest_inputs) (Ok bytes) → given ≡ bytes → samples_of k given ≡ Ok ss → Works held old new (starts_work k inputs) (Ok ss)
  starts_done bytes given ss works slice is = works_last held old new (file inputs longest_inputs) (starts_in k) bytes (stopped_by input_refusal (samples_of k bytes)) (Ok ss) works refl (ap (λ b. stopped_by input_refusal (samples_of k b)) (sym slice) ∙ ap (stopped_by input_refusal) is)

  pub starts_end : (bytes given : Bytes) (f : InputFault) (o : Option Refusal) (e : Fault) → Works held old new (file inputs longest_inputs) (Ok bytes) → given ≡ bytes → (f ≡ input.Memory) ⊎ (samples_of k given ≡ Err f) → o ≡ input_refusal f → e ≡ fault_on o
      → Works held old new (starts_work k inputs) (Err e)
  starts_end bytes given f o e works slice fails is same =
      works_last held old new (file inputs longest_inputs) (starts_in k) bytes (stopped_by input_refusal (samples_of k bytes)) (Err e) works refl
      (subst (λ g. Comes {A = List Store} (stopped_by input_refusal (samples_of k bytes)) (Err g)) (sym (same ∙ ap fault_on is)) (input_comes (samples_of k bytes) f (subst (λ b. (f ≡ input.Memory) ⊎ (samples_of k b ≡ Err f)) slice fails)))
