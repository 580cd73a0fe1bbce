-- What is found is of a source that was read: its tree, and the function of that name in it.
use Rattle.std.proofs.Common.{◌≡◌, ℕ, List, [], ◌∷◌, Option, Some, None, Result, Ok, Err, refl, ap, subst}
use Rattle.rely_num.specs.Texts.{Bytes}
use Rattle.rely_hard.specs.Meaning.{hardware_of}
use Rattle.rely_hard.specs.declared.fault.HardFault.{HardFault}
use Rattle.rely_hard.specs.declared.hardware.Hardware.{Hardware}
use Rattle.rely_kernel.specs.declared.kernel.Linked.{Linked}
use Rattle.rely_resolve.specs.Linked.{linked_of}
use Rattle.rely_resolve.specs.declared.fault.NameFault.{NameFault}
use Rattle.rely_tree.specs.Tree.{UnitTree}
use Rattle.chisel_optimise.specs.Answers as choose
use Rattle.chisel_optimise.specs.declared.certified.Asked.{Asked as What}
use Rattle.chisel_optimise.specs.declared.certified.Asked.TheVariants as certificate
use Rattle.chisel_files.specs.Choosing.{certificate_work, made_problem, open_work, opening, opening_behind, opening_in, problem_by, problem_from, problem_work, starting, unless_closed}
use Rattle.chisel_files.specs.Files.{file, longest}
use Rattle.chisel_files.specs.Front.{closed_work, hardware_work, kept_with, meaning_in, meant_work, ready_work, source_work, starts_work}
use Rattle.chisel_files.specs.Refused.{meaning_refusal, source_refusal, stopped_by}
use Rattle.chisel_files.specs.Works.{Content, Done, Open, Work, found, ◌then◌}
use Rattle.chisel_lines.specs.declared.refusal.Refusal.{Refusal}
use Rattle.chisel_source.specs.Meaning.{fault_by, meaning, ready_by, unit_in, ◌>>=◌}
use Rattle.chisel_source.specs.Open.{open_place, open_place_in}
use Rattle.chisel_source.specs.declared.fault.MeaningFault.TheVariants as meaning_fault
use Rattle.chisel_source.specs.declared.ready.Meant.{Meant}
use Rattle.chisel_source.specs.declared.ready.Ready.{Ready}
use Rattle.chisel_run.specs.Answer as runs
use Rattle.chisel_verify.specs.Answer as verify
use Rattle.chisel_words.specs.Words.{Certified, Command, ToCheck, ToMake, ToMigrate, ToOptimise, ToRewrite, ToRun, ToVerify, ToVersion, form}
use Rattle.chisel_top.specs.Findings.{Choosing, Finding, Introducing, Judging, Running, certificate_of, certified_work, certifying, choosing, finding, inputs_of, judging, running, running_from, unbarred, work_of}
use Rattle.chisel_top.specs.Rewriting.{IsMeaning}

-- ---- what work comes to

-- whatever the contents, it is so of what the work comes to
abbrev Yields : {A : Type 0} → (A → Type 0) → Work A → Type 0
Yields {A = A} P (Done x) = (a : A) → x ≡ Ok a → P a
Yields P (Open name next) = (c : Content) → Yields P (next c)

yields_then : {A B : Type 0} (Q : A → Type 0) (P : B → Type 0) (w : Work A) (f : A → Work B) → Yields Q w → ((a : A) → Q a → Yields P (f a)) → Yields P (w then f)
yields_then Q P (Done (Ok a)) f h k = k a (h a refl)
yields_then Q P (Done (Err s)) f h k = λ b e. absurd (cc)
yields_then Q P (Open name next) f h k = λ c. yields_then Q P (next c) f (h c) k

yields_any : {A : Type 0} (w : Work A) → Yields (λ a. Unit {0}) w
yields_any (Done x) = λ a e. tt
yields_any (Open name next) = λ c. yields_any (next c)

yields_done : {A : Type 0} (P : A → Type 0) (a : A) → P a → Yields P (Done (Ok a))
yields_done P a p = λ b e. let same : a ≡ b = cc in subst P same p

found_yields : {A : Type 0} (P : A → Type 0) (w : Work A) (got : List Content) (a : A) → Yields P w → found w got ≡ Ok a → P a
found_yields P (Done x) got a h e = h a e
found_yields P (Open name next) [] a h e = found_yields P (next None) [] a (h None) e
found_yields P (Open name next) (c ∷ cs) a h e = found_yields P (next c) cs a (h c) e

-- ---- the source

abbrev ok_of : {A E : Type 0} → A → Result A E
ok_of a = Ok a

stopped_ok : {A E : Type 0} (refusal : E → Option Refusal) (x : Result A E) (a : A) → stopped_by refusal x ≡ Ok a → x ≡ Ok a
stopped_ok {A = A} {E = E} refusal (Ok b) a e = let same : b ≡ a = cc in ap (ok_of {E = E}) same
stopped_ok refusal (Err f) a e = absurd (cc)

abbrev linked_on : Hardware → Linked → Meant
linked_on h l = record { hardware = h; linked = l }

-- what a tree and a hardware's bytes mean is the function of that name, linked
meaning_links : (unit : UnitTree) (name bytes : Bytes) (m : Meant) → meaning unit name bytes ≡ Ok m → linked_of unit name m.hardware ≡ Ok m.linked
meaning_links unit name bytes m e = by_hardware (hardware_of bytes) e
  where
    by_links : (h : Hardware) (x : Result Linked NameFault) → linked_of unit name h ≡ x
        → (fault_by meaning_fault.Name x >>= λ l. Ok (linked_on h l)) ≡ Ok m → linked_of unit name m.hardware ≡ Ok m.linked
    by_links h (Ok l) is e = let same : linked_on h l ≡ m = cc in subst (λ (n : Meant). linked_of unit name n.hardware ≡ Ok n.linked) same is
    by_links h (Err f) is e = absurd (cc)

    by_hardware : (x : Result Hardware HardFault)
        → (fault_by meaning_fault.Hardware x >>= λ h. fault_by meaning_fault.Name (linked_of unit name h) >>= λ l. Ok (linked_on h l)) ≡ Ok m
        → linked_of unit name m.hardware ≡ Ok m.linked
    by_hardware (Ok h) e = by_links h (linked_of unit name h) refl e
    by_hardware (Err f) e = absurd (cc)

-- it is of the tree of this text
abbrev IsMeant : Bytes → Bytes → Meant → Type 0
IsMeant text name m = (unit : UnitTree) × (unit_in text ≡ Ok unit) × (linked_of unit name m.hardware ≡ Ok m.linked)

meant_yields : (text hardware name : Bytes) → Yields (IsMeant text name) (meant_work text hardware name)
meant_yields text hardware name =
    yields_then (λ unit. unit_in text ≡ Ok unit) (IsMeant text name) (Done (stopped_by source_refusal (unit_in text))) (hardware_work hardware name)
    (λ unit e. stopped_ok source_refusal (unit_in text) unit e) (λ unit read.
    yields_then (λ bytes. Unit {0}) (IsMeant text name) (file hardware longest) (meaning_in unit name) (yields_any (file hardware longest)) (λ bytes any m e.
    (unit, read, meaning_links unit name bytes m (stopped_ok meaning_refusal (meaning unit name bytes) m e))))

ready_yields : (source hardware name : Bytes) → Yields IsMeaning (ready_work source hardware name)
ready_yields source hardware name =
    yields_then (λ text. Unit {0}) IsMeaning (file source longest) (source_work hardware name) (yields_any (file source longest)) (λ text any.
    yields_then (IsMeant text name) IsMeaning (meant_work text hardware name) (kept_with text) (meant_yields text hardware name) (λ m is.
    yields_done IsMeaning (ready_by text m) (record { unit = is.0; name = name; read = is.1; means = is.2 })))

-- the marks change nothing
opening_keeps : (r other : Ready) → opening r ≡ Ok other → r ≡ other
opening_keeps r other e = by_inner (open_place_in r.linked.inner) e
  where
    by_own : (place : Option ℕ) → unless_closed place r ≡ Ok other → r ≡ other
    by_own None e = absurd (cc)
    by_own (Some place) e = cc

    by_inner : (place : Option ℕ) → opening_behind place r ≡ Ok other → r ≡ other
    by_inner (Some place) e = absurd (cc)
    by_inner None e = by_own (open_place r.linked.kernel) e

problem_yields : (source hardware inputs name : Bytes) → Yields (λ p. IsMeaning p.ready) (problem_work source hardware inputs name)
problem_yields source hardware inputs name =
    yields_then IsMeaning (λ p. IsMeaning p.ready) (open_work source hardware name) (starting inputs)
    (yields_then IsMeaning IsMeaning (ready_work source hardware name) opening_in (ready_yields source hardware name) (λ r is other e. subst IsMeaning (opening_keeps r other e) is)) (λ r is.
    yields_then (λ starts. Unit {0}) (λ p. IsMeaning p.ready) (starts_work r.linked.kernel inputs) (problem_from r) (yields_any (starts_work r.linked.kernel inputs)) (λ starts any.
    yields_done (λ p. IsMeaning p.ready) (problem_by r starts) is))

-- ---- the commands

-- a made problem is of no file
abbrev pub IsRead : choose.Job → Ready → Type 0
IsRead (choose.Optimise s) r = IsMeaning r
IsRead (choose.Certify what text) r = IsMeaning r
IsRead choose.Measure r = Unit {0}

abbrev pub IsOfSource : Finding → Type 0
IsOfSource (Judging i) = Unit {0}
IsOfSource (Running i) = Unit {0}
IsOfSource (Choosing i) = IsRead i.job i.ready
IsOfSource Introducing = Unit {0}

certified_yields : (what : What) (w : Certified) → Yields IsOfSource (certified_work what w)
certified_yields what w =
    yields_then (λ p. IsMeaning p.ready) IsOfSource (problem_work w.source w.hardware w.inputs w.function) (certificate_of what w) (problem_yields w.source w.hardware w.inputs w.function) (λ p is.
    yields_then (λ text. Unit {0}) IsOfSource (certificate_work w.certificate) (certifying what p) (yields_any (certificate_work w.certificate)) (λ text any.
    yields_done IsOfSource (Choosing (choose.given p.ready p.starts (choose.Certify what text))) is))

command_yields : (c : Command) → Yields IsOfSource (work_of (Some c))
command_yields (ToVerify v) =
    yields_then (λ r. Unit {0}) IsOfSource (closed_work v.source v.hardware v.function) (judging v) (yields_any (closed_work v.source v.hardware v.function)) (λ r any.
    yields_done IsOfSource (Judging (verify.asked r v.callees)) tt)
command_yields (ToRun w) =
    yields_then (λ r. Unit {0}) IsOfSource (closed_work w.source w.hardware w.function) (running w) (yields_any (closed_work w.source w.hardware w.function)) (λ r any.
    yields_then (λ u. Unit {0}) IsOfSource (Done (unbarred w.trials r)) (inputs_of w) (yields_any (Done (unbarred w.trials r))) (λ u also.
    yields_then (λ starts. Unit {0}) IsOfSource (starts_work u.linked.kernel w.inputs) (running_from w u) (yields_any (starts_work u.linked.kernel w.inputs)) (λ starts too.
    yields_done IsOfSource (Running (runs.asked u w.trials starts)) tt)))
command_yields (ToOptimise w) =
    yields_then (λ p. IsMeaning p.ready) IsOfSource (problem_work w.source w.hardware w.inputs w.function) (choosing (choose.Optimise w.search)) (problem_yields w.source w.hardware w.inputs w.function) (λ p is.
    yields_done IsOfSource (Choosing (choose.given p.ready p.starts (choose.Optimise w.search))) is)
command_yields (ToCheck w) = certified_yields certificate.Check w
command_yields (ToRewrite w) = certified_yields certificate.Rewrite w
command_yields (ToMigrate w) = certified_yields certificate.Migrate w
command_yields (ToMake m) =
    yields_then (λ p. Unit {0}) IsOfSource (Done (made_problem m.size m.number)) (choosing choose.Measure) (yields_any (Done (made_problem m.size m.number))) (λ p any.
    yields_done IsOfSource (Choosing (choose.given p.ready p.starts choose.Measure)) tt)
command_yields ToVersion = yields_done IsOfSource Introducing tt

pub of_source : (words : List Bytes) (got : List Content) (f : Finding) → finding words got ≡ Ok f → IsOfSource f
of_source words got f e = by_form (form words) e
  where
    by_form : (o : Option Command) → found (work_of o) got ≡ Ok f → IsOfSource f
    by_form None e = absurd (cc)
    by_form (Some c) e = found_yields IsOfSource (work_of (Some c)) got f (command_yields c) e
