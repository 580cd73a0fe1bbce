-- What the commands begin with that choose, step by step.
use Rattle.std.proofs.Common.{◌≡◌, ℕ, ◌≤◌, List, [], ◌∷◌, length, Option, Some, None, Result, Ok, Err, refl, sym, ap, subst, ◌∙◌, ◌⊎◌}
use Rattle.std.specs.Prelude.{codes, fold}
use Rattle.std.specs.List.{All, AllByRecursion}
use Rattle.rely_num.specs.Texts.{Bytes}
use Rattle.rely_inputs.specs.Samples.{samples_of}
use Rattle.rely_inputs.specs.declared.fault.InputFault.{InputFault}
use Rattle.rely_inputs.specs.declared.fault.InputFault.TheVariants as input
use Rattle.rely_kernel.specs.Bound.{IsStart}
use Rattle.rely_kernel.specs.Setting.{IsClosed, marks_of}
use Rattle.rely_kernel.specs.Valid.{IsValid}
use Rattle.rely_num.specs.OpenMarks.{AreOpenMarks}
use Rattle.rely_kernel.specs.declared.kernel.Linked.{Linked}
use Rattle.rely_kernel.specs.declared.setting.Store.{Store}
use Rattle.rely_tree.specs.Tree.{UnitTree}
use Rattle.chisel_lines.specs.Faults.{NoForm, Refused, Stop, TooLong}
use Rattle.chisel_lines.specs.declared.fault.Fault.{Fault}
use Rattle.chisel_lines.specs.declared.fault.Fault.TheVariants as fault
use Rattle.chisel_lines.specs.declared.refusal.Reason.TheVariants.{Closed, Mark}
use Rattle.chisel_lines.specs.declared.refusal.Refusal.{Refusal}
use Rattle.chisel_lines.specs.declared.refusal.Refusal.TheVariants.{Source}
use Rattle.chisel_make.specs.Draws.{after}
use Rattle.chisel_make.specs.Made as made
use Rattle.chisel_make.specs.declared.made.Made.{Made}
use Rattle.chisel_outside.specs.Outside.{Log}
use Rattle.chisel_source.proofs.Parts.{own_valid}
use Rattle.chisel_source.specs.Meaning.{IsMeant, IsReady, MeaningFails, SourceFails, meaning, ready_by, unit_in}
use Rattle.chisel_source.specs.Open.{earlier, open_place, open_place_in}
use Rattle.chisel_source.specs.declared.fault.MeaningFault.{MeaningFault}
use Rattle.chisel_source.specs.declared.fault.SourceFault.{SourceFault}
use Rattle.chisel_source.specs.declared.ready.Meant.{Meant}
use Rattle.chisel_source.specs.declared.ready.Ready.{Ready}
use Rattle.chisel_files.specs.declared.choosing.Problem.{Problem}
use Rattle.chisel_files.specs.Choosing.{IsOpen, IsProblem, certificate_work, longest_certificate, made_meaning, made_problem, made_starts, open_work, opening, opening_behind, opening_in, problem_by, problem_from, problem_work, problem_in, starting, unless_closed, ◌>>=◌}
use Rattle.chisel_files.specs.Front.{ready_work, starts_work}
use Rattle.chisel_files.specs.Refused.{fault_on, input_refusal, meaning_refusal, source_refusal, stopped_by}
use Rattle.chisel_files.specs.Works.{Comes, Content, Works}
use Rattle.chisel_files.proofs.Opening.{Exactly, Formed, exactly_then, file_exactly, formed_refused, formed_then, formed_within, ready_exactly, ready_formed, starts_exactly, starts_formed}
use Rattle.chisel_files.proofs.Refusing.{input_comes, meaning_comes, source_comes}
use Rattle.chisel_files.proofs.Working.{works_last, works_same, works_stop, works_then}

-- ---- marks

-- a function that is reached leaves a place open
pub mark_behind : (r : Ready) (place : ℕ) → Some place ≡ open_place_in r.linked.inner → opening r ≡ Err (Refused (Some (Source Mark place)))
mark_behind r place e = ap (λ o. opening_behind o r) (sym e)

pub nothing_open : (r : Ready) → None ≡ open_place_in r.linked.inner → None ≡ open_place r.linked.kernel → opening r ≡ Err (Refused (Some (Source Closed r.linked.kernel.name.from)))
nothing_open r inner own = ap (λ o. opening_behind o r) (sym inner) ∙ ap (λ o. unless_closed o r) (sym own)

pub some_place : (r : Ready) (place : ℕ) → None ≡ open_place_in r.linked.inner → Some place ≡ open_place r.linked.kernel → opening r ≡ Ok r
some_place r place inner own = ap (λ o. opening_behind o r) (sym inner) ∙ ap (λ o. unless_closed o r) (sym own)

pub open_by : (l : Linked) (place : ℕ) → AllByRecursion IsClosed l.inner → Some place ≡ open_place l.kernel → IsOpen l
open_by l place inner own =
    record { inner = inner; some = λ closed. let none : open_place l.kernel ≡ None = ap (fold earlier None) closed in let clash = own ∙ none in cc }

-- ---- files

module _ (held : Bytes → Option Content) (source hardware function : Bytes) where
  pub ready_ends : (old new : Log) (e : Fault) → Works held old new (ready_work source hardware function) (Err e) → Works held old new (open_work source hardware function) (Err e)
  ready_ends old new e works = works_stop held old new (ready_work source hardware function) opening_in e works

  pub open_comes : (old new : Log) (r : Ready) (x : Result Ready Fault) → Works held old new (ready_work source hardware function) (Ok r) → Comes (opening r) x → Works held old new (open_work source hardware function) x
  open_comes old new r x works comes = works_last held old new (ready_work source hardware function) opening_in r (opening r) x works refl comes

module _ (held : Bytes → Option Content) (source hardware inputs function : Bytes) where
  pub open_stops : (old new : Log) (e : Fault) → Works held old new (open_work source hardware function) (Err e) → Works held old new (problem_work source hardware inputs function) (Err e)
  open_stops old new e works = works_stop held old new (open_work source hardware function) (starting inputs) e works

  module _ (now : Bytes → Option Content) (old mid new : Log) (r : Ready) (same : (n : Bytes) → now n ≡ held n) (read : Works held old mid (open_work source hardware function) (Ok r)) where
    pub starts_stop : (e : Fault) → Works now mid new (starts_work r.linked.kernel inputs) (Err e) → Works held old new (problem_work source hardware inputs function) (Err e)
    starts_stop e works =
        works_then held old mid new (open_work source hardware function) (starting inputs) r (Err e) read
        (works_stop held mid new (starts_work r.linked.kernel inputs) (problem_from r) e (works_same held now mid new (starts_work r.linked.kernel inputs) (Err e) same works))

    pub problem_read : (starts : List Store) → Works now mid new (starts_work r.linked.kernel inputs) (Ok starts) → Works held old new (problem_work source hardware inputs function) (Ok (problem_by r starts))
    problem_read starts works =
        works_then held old mid new (open_work source hardware function) (starting inputs) r (Ok (problem_by r starts)) read
        (works_last held mid new (starts_work r.linked.kernel inputs) (problem_from r) starts (Ok (problem_by r starts)) (Ok (problem_by r starts))
        (works_same held now mid new (starts_work r.linked.kernel inputs) (Ok starts) same works) refl refl)

pub is_problem : (r : Ready) (starts : List Store) → IsReady r → IsOpen r.linked → All (IsStart r.linked.kernel) starts → (1 ≤ length starts) × (length starts ≤ 64) → IsProblem (problem_by r starts)
is_problem r starts ready opened each count = record { ready = ready; is_open = opened; starts = each; some = count.0; few = count.1 }

-- ---- made problems

-- a fault of a step is one of the whole
comes_then : {A B : Type 0} (x : Result A Stop) (f : A → Result B Stop) (e : Fault) → Comes {A = A} x (Err e) → Comes {A = B} (x >>= f) (Err e)
comes_then {B = B} x f fault.Words c = subst (λ y. ◌≡◌ {A = Result B Stop} (y >>= f) (Err NoForm)) (sym c) refl
comes_then x f (fault.Read name) c = absurd c
comes_then {B = B} x f (fault.Length name limit) c = subst (λ y. ◌≡◌ {A = Result B Stop} (y >>= f) (Err (TooLong name.now limit))) (sym c) refl
comes_then {B = B} x f (fault.Refused r) c = subst (λ y. ◌≡◌ {A = Result B Stop} (y >>= f) (Err (Refused (Some r)))) (sym c) refl
comes_then x f fault.Memory c = tt

-- a step that goes on
goes_then : {A B : Type 0} (x : Result A Stop) (f : A → Result B Stop) (a : A) (r : Result B Fault) → x ≡ Ok a → Comes {A = B} (f a) r → Comes {A = B} (x >>= f) r
goes_then {B = B} x f a r e c = subst (λ y. Comes {A = B} (y >>= f) r) (sym e) c

module _ (text hardware : Bytes) where
  pub source_fails : (f : SourceFault) (o : Option Refusal) (e : Fault) → SourceFails (unit_in text) f → o ≡ source_refusal f → e ≡ fault_on o → Comes {A = Meant} (made_meaning text hardware) (Err e)
  source_fails f o e fails is same =
      subst (λ g. Comes {A = Meant} (made_meaning text hardware) (Err g)) (sym (same ∙ ap fault_on is))
      (comes_then (stopped_by source_refusal (unit_in text)) (λ unit. stopped_by meaning_refusal (meaning unit (codes "made") hardware)) (fault_on (source_refusal f)) (source_comes (unit_in text) f fails))

  module _ (unit : UnitTree) (read : unit_in text ≡ Ok unit) where
    behind_source : (r : Result Meant Fault) → Comes {A = Meant} (stopped_by meaning_refusal (meaning unit (codes "made") hardware)) r → Comes {A = Meant} (made_meaning text hardware) r
    behind_source r comes =
        goes_then (stopped_by source_refusal (unit_in text)) (λ u. stopped_by meaning_refusal (meaning u (codes "made") hardware)) unit r (ap (stopped_by source_refusal) read) comes

    pub meaning_fails : (f : MeaningFault) (o : Option Refusal) (e : Fault) → MeaningFails (meaning unit (codes "made") hardware) f → o ≡ meaning_refusal f → e ≡ fault_on o
        → Comes {A = Meant} (made_meaning text hardware) (Err e)
    meaning_fails f o e fails is same =
        subst (λ g. Comes {A = Meant} (made_meaning text hardware) (Err g)) (sym (same ∙ ap fault_on is))
        (behind_source (Err (fault_on (meaning_refusal f))) (meaning_comes (meaning unit (codes "made") hardware) f fails))

    pub meaning_is : (m : Meant) → meaning unit (codes "made") hardware ≡ Ok m → made_meaning text hardware ≡ Ok m
    meaning_is m is = behind_source (Ok m) (ap (stopped_by meaning_refusal) is)

module _ (text hardware inputs : Bytes) where
  pub texts_stop : (e : Fault) → Comes {A = Meant} (made_meaning text hardware) (Err e) → Comes {A = Problem} (problem_in text hardware inputs) (Err e)
  texts_stop e comes = comes_then (made_meaning text hardware) (λ m. opening (ready_by text m) >>= λ r. made_starts inputs r) e comes

  module _ (m : Meant) (means : made_meaning text hardware ≡ Ok m) where
    behind_meaning : (x : Result Problem Fault) → Comes {A = Problem} (opening (ready_by text m) >>= λ r. made_starts inputs r) x → Comes {A = Problem} (problem_in text hardware inputs) x
    behind_meaning x comes = goes_then (made_meaning text hardware) (λ n. opening (ready_by text n) >>= λ r. made_starts inputs r) m x means comes

    pub marks_stop : (e : Fault) → Comes {A = Ready} (opening (ready_by text m)) (Err e) → Comes {A = Problem} (problem_in text hardware inputs) (Err e)
    marks_stop e comes = behind_meaning (Err e) (comes_then (opening (ready_by text m)) (made_starts inputs) e comes)

    module _ (r : Ready) (opens : opening (ready_by text m) ≡ Ok r) where
      behind_marks : (x : Result Problem Fault) → Comes {A = Problem} (made_starts inputs r) x → Comes {A = Problem} (problem_in text hardware inputs) x
      behind_marks x comes = behind_meaning x (goes_then (opening (ready_by text m)) (made_starts inputs) r x opens comes)

      pub inputs_fail : (f : InputFault) (o : Option Refusal) (e : Fault) → (f ≡ input.Memory) ⊎ (samples_of r.linked.kernel inputs ≡ Err f) → o ≡ input_refusal f → e ≡ fault_on o
          → Comes {A = Problem} (problem_in text hardware inputs) (Err e)
      inputs_fail f o e fails is same =
          subst (λ g. Comes {A = Problem} (problem_in text hardware inputs) (Err g)) (sym (same ∙ ap fault_on is))
          (behind_marks (Err (fault_on (input_refusal f)))
          (comes_then (stopped_by input_refusal (samples_of r.linked.kernel inputs)) (λ starts. Ok (problem_by r starts)) (fault_on (input_refusal f)) (input_comes (samples_of r.linked.kernel inputs) f fails)))

      pub problem_made : (starts : List Store) → samples_of r.linked.kernel inputs ≡ Ok starts → problem_in text hardware inputs ≡ Ok (problem_by r starts)
      problem_made starts is =
          behind_marks (Ok (problem_by r starts))
          (goes_then (stopped_by input_refusal (samples_of r.linked.kernel inputs)) (λ ss. Ok (problem_by r ss)) starts (Ok (problem_by r starts)) (ap (stopped_by input_refusal) is) refl)

-- the same of the texts that were made
module _ (size number : ℕ) (m : Made) (is : made.IsMade size number m) where
  made_by : (x : Result Problem Fault) → Comes {A = Problem} (problem_in m.source m.hardware m.inputs) x → Comes {A = Problem} (made_problem size number) x
  made_by x comes =
      subst (λ s. Comes {A = Problem} (problem_in s made.hardware (made.inputs (after size number))) x) is.source
      (subst (λ h. Comes {A = Problem} (problem_in m.source h (made.inputs (after size number))) x) is.hardware
      (subst (λ i. Comes {A = Problem} (problem_in m.source m.hardware i) x) is.inputs comes))

  module _ (text hardware : Bytes) (slice : text ≡ m.source) (slice' : hardware ≡ m.hardware) where
    made_means : (r : Result Meant Fault) → Comes {A = Meant} (made_meaning text hardware) r → Comes {A = Meant} (made_meaning m.source m.hardware) r
    made_means r comes = subst (λ s. Comes {A = Meant} (made_meaning s m.hardware) r) slice (subst (λ h. Comes {A = Meant} (made_meaning text h) r) slice' comes)

    pub made_unread : (e : Fault) → Comes {A = Meant} (made_meaning text hardware) (Err e) → Comes {A = Problem} (made_problem size number) (Err e)
    made_unread e comes = made_by (Err e) (texts_stop m.source m.hardware m.inputs e (made_means (Err e) comes))

    module _ (n : Meant) (means : made_meaning text hardware ≡ Ok n) (r : Ready) (new : r ≡ ready_by m.source n) where
      pub made_closed : (e : Fault) → Comes {A = Ready} (opening r) (Err e) → Comes {A = Problem} (made_problem size number) (Err e)
      made_closed e comes =
          made_by (Err e) (marks_stop m.source m.hardware m.inputs n (made_means (Ok n) means) e (subst (λ q. Comes {A = Ready} (opening q) (Err e)) new comes))

      module _ (o : Ready) (opens : opening r ≡ Ok o) (inputs : Bytes) (slice'' : inputs ≡ m.inputs) where
        pub made_unstarted : (f : InputFault) (refusal : Option Refusal) (e : Fault) → (f ≡ input.Memory) ⊎ (samples_of o.linked.kernel inputs ≡ Err f) → refusal ≡ input_refusal f → e ≡ fault_on refusal
            → Comes {A = Problem} (made_problem size number) (Err e)
        made_unstarted f refusal e fails as_refusal as_fault =
            made_by (Err e)
            (inputs_fail m.source m.hardware m.inputs n (made_means (Ok n) means) o (ap opening (sym new) ∙ opens) f refusal e
            (subst (λ i. (f ≡ input.Memory) ⊎ (samples_of o.linked.kernel i ≡ Err f)) slice'' fails) as_refusal as_fault)

        pub made_started : (starts : List Store) → samples_of o.linked.kernel inputs ≡ Ok starts → made_problem size number ≡ Ok (problem_by o starts)
        made_started starts read =
            made_by (Ok (problem_by o starts))
            (problem_made m.source m.hardware m.inputs n (made_means (Ok n) means) o (ap opening (sym new) ∙ opens) starts (ap (samples_of o.linked.kernel) (sym slice'') ∙ read))

-- what is meant is valid
pub made_valid : (text : Bytes) (n : Meant) (r o : Ready) → IsMeant n → AreOpenMarks text (marks_of n.linked.kernel) → r ≡ ready_by text n → o ≡ r → IsValid o.linked.kernel
made_valid text n r o sound marks new same =
    own_valid o (subst IsReady (sym (same ∙ new)) (record { hardware = sound.hardware; linked = sound.linked; on = sound.on; marks = marks }))

-- ---- the names

open_exactly : (source hardware function : Bytes) → Exactly (source ∷ hardware ∷ []) (open_work source hardware function)
open_exactly source hardware function = exactly_then (source ∷ hardware ∷ []) [] (ready_work source hardware function) opening_in (ready_exactly source hardware function) (λ r. tt)

pub problem_exactly : (source hardware inputs function : Bytes) → Exactly (source ∷ hardware ∷ inputs ∷ []) (problem_work source hardware inputs function)
problem_exactly source hardware inputs function =
    exactly_then (source ∷ hardware ∷ []) (inputs ∷ []) (open_work source hardware function) (starting inputs) (open_exactly source hardware function) (λ r.
    exactly_then (inputs ∷ []) [] (starts_work r.linked.kernel inputs) (problem_from r) (starts_exactly r.linked.kernel inputs) (λ starts. tt))

pub certificate_exactly : (name : Bytes) → Exactly (name ∷ []) (certificate_work name)
certificate_exactly name = file_exactly name longest_certificate

-- ---- the form

formed_own : (own : Option ℕ) (r : Ready) → unless_closed own r ≡ Err NoForm → ⊥
formed_own None r e = cc
formed_own (Some place) r e = cc

formed_behind : (inner : Option ℕ) (r : Ready) → opening_behind inner r ≡ Err NoForm → ⊥
formed_behind (Some place) r e = cc
formed_behind None r e = formed_own (open_place r.linked.kernel) r e

formed_opening : (r : Ready) → opening r ≡ Err NoForm → ⊥
formed_opening r e = formed_behind (open_place_in r.linked.inner) r e

formed_done : {A : Type 0} (a : A) → ◌≡◌ {A = Result A Stop} (Ok a) (Err NoForm) → ⊥
formed_done a e = cc

pub problem_formed : (source hardware inputs function : Bytes) → Formed (problem_work source hardware inputs function)
problem_formed source hardware inputs function =
    formed_then (open_work source hardware function) (starting inputs)
    (formed_then (ready_work source hardware function) opening_in (ready_formed source hardware function) (λ r. formed_opening r)) (λ r.
    formed_then (starts_work r.linked.kernel inputs) (problem_from r) (starts_formed r.linked.kernel inputs) (λ starts. formed_done (problem_by r starts)))

pub certificate_formed : (name : Bytes) → Formed (certificate_work name)
certificate_formed name = formed_within name longest_certificate

formed_bind : {A B : Type 0} (x : Result A Stop) (f : A → Result B Stop) → (x ≡ Err NoForm → ⊥) → ((a : A) → f a ≡ Err NoForm → ⊥) → (x >>= f) ≡ Err NoForm → ⊥
formed_bind (Ok a) f h k e = k a e
formed_bind (Err s) f h k e = h (let same : s ≡ NoForm = cc in ap Err same)

pub made_formed : (size number : ℕ) → made_problem size number ≡ Err NoForm → ⊥
made_formed size number e = read_formed (made.source size number) made.hardware (made.inputs (after size number)) e
  where
    read_formed : (text hardware inputs : Bytes) → problem_in text hardware inputs ≡ Err NoForm → ⊥
    read_formed text hardware inputs e =
        formed_bind (made_meaning text hardware) (λ m. opening (ready_by text m) >>= λ r. made_starts inputs r)
        (formed_bind (stopped_by source_refusal (unit_in text)) (λ unit. stopped_by meaning_refusal (meaning unit (codes "made") hardware)) (formed_refused source_refusal (unit_in text)) (λ unit.
        formed_refused meaning_refusal (meaning unit (codes "made") hardware))) (λ m.
        formed_bind (opening (ready_by text m)) (made_starts inputs) (formed_opening (ready_by text m)) (λ r.
        formed_bind (stopped_by input_refusal (samples_of r.linked.kernel inputs)) (λ starts. Ok (problem_by r starts)) (formed_refused input_refusal (samples_of r.linked.kernel inputs)) (λ starts.
        formed_done (problem_by r starts)))) e
