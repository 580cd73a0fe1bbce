-- What the commands come to, step by step.
use Rattle.std.proofs.Common.{◌≡◌, ℕ, List, [], ◌∷◌, Option, Some, None, Result, Ok, Err, length, ◌≤◌, refl, sym, ap, subst, ◌∙◌}
use Rattle.rely_num.specs.Texts.{Bytes}
use Rattle.chisel_optimise.specs.Answers as choose
use Rattle.chisel_optimise.specs.Promises.{IsInput, IsJob}
use Rattle.chisel_optimise.specs.declared.certified.Asked.{Asked as What}
use Rattle.chisel_optimise.specs.declared.certified.Asked.TheVariants as certificate
use Rattle.chisel_files.specs.declared.choosing.Problem.{Problem}
use Rattle.chisel_files.specs.Choosing.{IsProblem, certificate_work, made_problem, problem_work}
use Rattle.chisel_files.proofs.Problems.{certificate_exactly, certificate_formed, made_formed, problem_exactly, problem_formed}
use Rattle.chisel_files.specs.Works.{Comes, Content, Done, OpensOf, Work, Works, ◌then◌}
use Rattle.chisel_files.specs.Front.{closed_work, starts_work}
use Rattle.chisel_files.proofs.Opening.{Exactly, Formed, closed_exactly, closed_formed, exactly_opens, exactly_then, formed_then, starts_exactly, starts_formed}
use Rattle.chisel_files.proofs.Working.{works_done, works_ends, works_goes, works_last, works_same, works_stop, works_then}
use Rattle.chisel_lines.specs.Faults.{NoForm, Stop}
use Rattle.chisel_lines.specs.declared.answer.Answer.{Answer}
use Rattle.chisel_lines.specs.declared.answer.Answer.TheVariants as answer
use Rattle.chisel_lines.specs.declared.fault.Fault.{Fault}
use Rattle.chisel_lines.specs.declared.fault.Fault.TheVariants as fault
use Rattle.chisel_lines.specs.declared.refusal.Reason.TheVariants as reason
use Rattle.chisel_lines.specs.declared.refusal.Refusal.TheVariants as refusal
use Rattle.chisel_lines.specs.declared.status.Grade.TheVariants as grade
use Rattle.chisel_lines.specs.Versions.{version_line}
use Rattle.chisel_outside.specs.Outside.{Log}
use Rattle.std.specs.List.{All}
use Rattle.rely_kernel.specs.Bound.{IsStart}
use Rattle.rely_kernel.specs.declared.setting.Store.{Store}
use Rattle.chisel_source.specs.Meaning.{AreClosed, IsReady}
use Rattle.chisel_source.specs.declared.ready.Ready.{Ready}
use Rattle.chisel_run.specs.Answer as runs
use Rattle.chisel_run.specs.Calls.{barred_call}
use Rattle.chisel_verify.specs.Answer as verify
use Rattle.std.specs.Prelude.{IfSome, option_map}
use Rattle.chisel_words.specs.declared.words.Asked.{Asked}
use Rattle.chisel_words.specs.Asked.{asked_by}
use Rattle.chisel_options.specs.declared.trials.Trials.{Trials}
use Rattle.chisel_top.specs.Findings.{Choosing, Finding, Introducing, Judging, Running, certificate_of, certified_work, certifying, choosing, inputs_of, judging, make_work, optimise_work, running, running_from, unbarred, unless_barred, work_of}
use Rattle.chisel_top.specs.Outcomes.{Final, Reaches}
use Rattle.chisel_words.specs.Words.{Certified, Command, KeepsLimits, Make, Optimise, Simulate, ToCheck, ToMake, ToMigrate, ToOptimise, ToRewrite, ToRun, ToVerify, ToVersion, Verify, certified_files, files_of}

-- a fault of the work ends it
pub reaches_stop : (held : Bytes → Option Content) (old new : Log) (w : Work Finding) (e : Fault) → Works {A = Finding} held old new w (Err e) → Reaches held old new w (Err e)
reaches_stop held old new w e works = record { came = Err e; works = works; final = refl }

-- and else the family answers, or it wants memory
pub reaches_answer : (held : Bytes → Option Content) (old new : Log) (w : Work Finding) (f : Finding) (r : Result Answer Fault) → Works held old new w (Ok f) → Final (Ok f) r → Reaches held old new w r
reaches_answer held old new w f r works final = record { came = Ok f; works = works; final = final }

-- what is reached behind a step that is done
pub reaches_then : {A : Type 0} (held now : Bytes → Option Content) (old mid new : Log) (w : Work A) (f : A → Work Finding) (a : A) (r : Result Answer Fault)
    → ((n : Bytes) → now n ≡ held n) → Works held old mid w (Ok a) → Reaches now mid new (f a) r → Reaches held old new (w then f) r
reaches_then held now old mid new w f a r same works x = record {
  came = x.came;
  works = works_then held old mid new w f a x.came works (works_same held now mid new (f a) x.came same x.works);
  final = x.final;
}

-- words of no form
pub none_reaches : (held : Bytes → Option Content) (log : Log) (v : Option Command) → None ≡ v → Reaches held log log (work_of v) (Err fault.Words)
none_reaches held log v e =
    subst (λ u. Reaches held log log (work_of u) (Err fault.Words)) e
    (record { came = Err fault.Words; works = works_done held log (Err NoForm) (Err fault.Words) refl; final = refl })

-- ---- the names

certified_exactly : (what : What) (w : Certified) → Exactly (certified_files w) (certified_work what w)
certified_exactly what w =
    exactly_then (w.source ∷ w.hardware ∷ w.inputs ∷ []) (w.certificate ∷ []) (problem_work w.source w.hardware w.inputs w.function) (certificate_of what w) (problem_exactly w.source w.hardware w.inputs w.function) (λ p.
    exactly_then (w.certificate ∷ []) [] (certificate_work w.certificate) (certifying what p) (certificate_exactly w.certificate) (λ text. tt))

command_exactly : (c : Command) → Exactly (files_of (Some c)) (work_of (Some c))
command_exactly (ToVerify v) = exactly_then (v.source ∷ v.hardware ∷ []) [] (closed_work v.source v.hardware v.function) (judging v) (closed_exactly v.source v.hardware v.function) (λ r. tt)
command_exactly (ToRun w) =
    exactly_then (w.source ∷ w.hardware ∷ []) (w.inputs ∷ []) (closed_work w.source w.hardware w.function) (running w) (closed_exactly w.source w.hardware w.function) (λ r.
    exactly_then [] (w.inputs ∷ []) (Done (unbarred w.trials r)) (inputs_of w) tt (λ u.
    exactly_then (w.inputs ∷ []) [] (starts_work u.linked.kernel w.inputs) (running_from w u) (starts_exactly u.linked.kernel w.inputs) (λ starts. tt)))
command_exactly (ToOptimise w) =
    exactly_then (w.source ∷ w.hardware ∷ w.inputs ∷ []) [] (problem_work w.source w.hardware w.inputs w.function) (choosing (choose.Optimise w.search)) (problem_exactly w.source w.hardware w.inputs w.function) (λ p. tt)
command_exactly (ToCheck w) = certified_exactly certificate.Check w
command_exactly (ToRewrite w) = certified_exactly certificate.Rewrite w
command_exactly (ToMigrate w) = certified_exactly certificate.Migrate w
command_exactly (ToMake m) = exactly_then [] [] (Done (made_problem m.size m.number)) (choosing choose.Measure) tt (λ p. tt)
command_exactly ToVersion = tt

pub opens_files : (o : Option Command) → OpensOf (files_of o) (work_of o)
opens_files None = tt
opens_files (Some c) = exactly_opens (files_of (Some c)) (work_of (Some c)) (command_exactly c)

-- ---- the form

formed_done : (f : Finding) → ◌≡◌ {A = Result Finding Stop} (Ok f) (Err NoForm) → ⊥
formed_done f e = cc

formed_barred : {A : Type 0} (o : Option ℕ) (a : A) → unless_barred o a ≡ Err NoForm → ⊥
formed_barred None a e = cc
formed_barred (Some place) a e = cc

certified_formed : (what : What) (w : Certified) → Formed (certified_work what w)
certified_formed what w =
    formed_then (problem_work w.source w.hardware w.inputs w.function) (certificate_of what w) (problem_formed w.source w.hardware w.inputs w.function) (λ p.
    formed_then (certificate_work w.certificate) (certifying what p) (certificate_formed w.certificate) (λ text. formed_done (Choosing (choose.given p.ready p.starts (choose.Certify what text)))))

pub command_formed : (c : Command) → Formed (work_of (Some c))
command_formed (ToVerify v) =
    formed_then (closed_work v.source v.hardware v.function) (judging v) (closed_formed v.source v.hardware v.function) (λ r. formed_done (Judging (verify.asked r v.callees)))
command_formed (ToRun w) =
    formed_then (closed_work w.source w.hardware w.function) (running w) (closed_formed w.source w.hardware w.function) (λ r.
    formed_then (Done (unbarred w.trials r)) (inputs_of w) (formed_barred (barred_call w.trials r.linked.kernel) r) (λ u.
    formed_then (starts_work u.linked.kernel w.inputs) (running_from w u) (starts_formed u.linked.kernel w.inputs) (λ starts. formed_done (Running (runs.asked u w.trials starts)))))
command_formed (ToOptimise w) =
    formed_then (problem_work w.source w.hardware w.inputs w.function) (choosing (choose.Optimise w.search)) (problem_formed w.source w.hardware w.inputs w.function) (λ p.
    formed_done (Choosing (choose.given p.ready p.starts (choose.Optimise w.search))))
command_formed (ToCheck w) = certified_formed certificate.Check w
command_formed (ToRewrite w) = certified_formed certificate.Rewrite w
command_formed (ToMigrate w) = certified_formed certificate.Migrate w
command_formed (ToMake m) =
    formed_then (Done (made_problem m.size m.number)) (choosing choose.Measure) (made_formed m.size m.number) (λ p. formed_done (Choosing (choose.given p.ready p.starts choose.Measure)))
command_formed ToVersion = formed_done Introducing

-- ---- the command `verify`

module _ (held : Bytes → Option Content) (old new : Log) (v : Verify) where
  pub verify_stops : (e : Fault) → Works held old new (closed_work v.source v.hardware v.function) (Err e) → Reaches held old new (work_of (Some (ToVerify v))) (Err e)
  verify_stops e works = reaches_stop held old new (work_of (Some (ToVerify v))) e (works_stop held old new (closed_work v.source v.hardware v.function) (judging v) e works)

  pub verify_answers : (ready : Ready) (r : Result Answer Fault) → Works held old new (closed_work v.source v.hardware v.function) (Ok ready) → Final (Ok (Judging (verify.asked ready v.callees))) r → Reaches held old new (work_of (Some (ToVerify v))) r
  verify_answers ready r works final =
      reaches_answer held old new (work_of (Some (ToVerify v))) (Judging (verify.asked ready v.callees)) r
      (works_last held old new (closed_work v.source v.hardware v.function) (judging v) ready (Ok (Judging (verify.asked ready v.callees))) (Ok (Judging (verify.asked ready v.callees))) works refl refl) final

-- ---- the command `run`

module _ (held : Bytes → Option Content) (old new : Log) (w : Simulate) where
  pub run_stops : (e : Fault) → Works held old new (closed_work w.source w.hardware w.function) (Err e) → Reaches held old new (work_of (Some (ToRun w))) (Err e)
  run_stops e works = reaches_stop held old new (work_of (Some (ToRun w))) e (works_stop held old new (closed_work w.source w.hardware w.function) (running w) e works)

  module _ (ready : Ready) where
    pub bar_stops : (place : ℕ) → old ≡ new → barred_call w.trials ready.linked.kernel ≡ Some place
        → Reaches held old new (running w ready) (Err (fault.Refused (refusal.Source reason.Trials place)))
    bar_stops place same barred =
        let e = fault.Refused (refusal.Source reason.Trials place) in
        subst (λ log. Reaches held old log (running w ready) (Err e)) same
        (reaches_stop held old old (running w ready) e (works_ends held old (unbarred w.trials ready) (inputs_of w) e (ap (λ o. unless_barred o ready) barred)))

    pub bar_passes : (r : Result Answer Fault) → barred_call w.trials ready.linked.kernel ≡ None → Reaches held old new (inputs_of w ready) r → Reaches held old new (running w ready) r
    bar_passes r none x = record {
      came = x.came;
      works = works_goes held old new (unbarred w.trials ready) (inputs_of w) ready x.came (ap (λ o. unless_barred o ready) none) x.works;
      final = x.final;
    }

    pub starts_stop : (e : Fault) → Works held old new (starts_work ready.linked.kernel w.inputs) (Err e) → Reaches held old new (inputs_of w ready) (Err e)
    starts_stop e works = reaches_stop held old new (inputs_of w ready) e (works_stop held old new (starts_work ready.linked.kernel w.inputs) (running_from w ready) e works)

    pub run_answers : (starts : List Store) (r : Result Answer Fault) → Works held old new (starts_work ready.linked.kernel w.inputs) (Ok starts)
        → Final (Ok (Running (runs.asked ready w.trials starts))) r → Reaches held old new (inputs_of w ready) r
    run_answers starts r works final =
        let f = Running (runs.asked ready w.trials starts) in
        reaches_answer held old new (inputs_of w ready) f r
        (works_last held old new (starts_work ready.linked.kernel w.inputs) (running_from w ready) starts (Ok f) (Ok f) works refl refl) final

-- what `run` asks of its family
pub run_input : (ready : Ready) (trials : Trials) (starts : List Store) → IsReady ready → AreClosed ready.linked → barred_call trials ready.linked.kernel ≡ None
    → All (IsStart ready.linked.kernel) starts → (1 ≤ length starts) × (length starts ≤ 64) → runs.IsInput (runs.asked ready trials starts)
run_input ready trials starts valid closed none each count = record {
  runnable = record { ready = valid; closed = closed };
  unbarred = none;
  starts = each;
  some = count.0;
  few = count.1;
}

-- ---- the commands that choose

-- the numbers of the command lie within their limits
pub limits_of : (r : Option Asked) (o : Option Command) (a : Asked) → option_map asked_by r ≡ o → r ≡ Some a → IfSome o KeepsLimits → KeepsLimits (asked_by a)
limits_of r o a is there limits = subst (λ p. IfSome p KeepsLimits) (sym is ∙ ap (option_map asked_by) there) limits

-- what a command reaches is what the words reach
pub words_reach : (r : Option Asked) (o : Option Command) (a : Asked) (held : Bytes → Option Content) (old new : Log) (x : Result Answer Fault) → option_map asked_by r ≡ o → r ≡ Some a
    → Reaches held old new (work_of (Some (asked_by a))) x → Reaches held old new (work_of o) x
words_reach r o a held old new x is there reaches = subst (λ p. Reaches held old new (work_of p) x) (sym (sym is ∙ ap (option_map asked_by) there)) reaches

-- a problem is what the family wants
pub is_input : (p : Problem) (job : choose.Job) → IsProblem p → IsJob job → IsInput (choose.given p.ready p.starts job)
is_input p job is good = record {
  sound = record { ready = is.ready; inner = is.is_open.inner; open_place = is.is_open.some; are_starts = is.starts; some = is.some; few = is.few };
  job = good;
}

module _ (held : Bytes → Option Content) (old new : Log) (w : Optimise) where
  pub optimise_stops : (e : Fault) → Works held old new (problem_work w.source w.hardware w.inputs w.function) (Err e) → Reaches held old new (optimise_work w) (Err e)
  optimise_stops e works =
      reaches_stop held old new (optimise_work w) e (works_stop held old new (problem_work w.source w.hardware w.inputs w.function) (choosing (choose.Optimise w.search)) e works)

  pub optimise_answers : (p : Problem) (r : Result Answer Fault) → Works held old new (problem_work w.source w.hardware w.inputs w.function) (Ok p)
      → Final (Ok (Choosing (choose.given p.ready p.starts (choose.Optimise w.search)))) r → Reaches held old new (optimise_work w) r
  optimise_answers p r works final =
      let f = Choosing (choose.given p.ready p.starts (choose.Optimise w.search)) in
      reaches_answer held old new (optimise_work w) f r
      (works_last held old new (problem_work w.source w.hardware w.inputs w.function) (choosing (choose.Optimise w.search)) p (Ok f) (Ok f) works refl refl) final

module _ (held : Bytes → Option Content) (old new : Log) (what : What) where
  pub problem_stops : (w : Certified) (e : Fault) → Works held old new (problem_work w.source w.hardware w.inputs w.function) (Err e) → Reaches held old new (certified_work what w) (Err e)
  problem_stops w e works =
      reaches_stop held old new (certified_work what w) e (works_stop held old new (problem_work w.source w.hardware w.inputs w.function) (certificate_of what w) e works)

  pub certificate_stops : (name : Bytes) (p : Problem) (e : Fault) → Works held old new (certificate_work name) (Err e) → Reaches held old new (certificate_work name then certifying what p) (Err e)
  certificate_stops name p e works =
      reaches_stop held old new (certificate_work name then certifying what p) e (works_stop held old new (certificate_work name) (certifying what p) e works)

  pub certificate_answers : (name : Bytes) (p : Problem) (text : Bytes) (r : Result Answer Fault) → Works held old new (certificate_work name) (Ok text)
      → Final (Ok (Choosing (choose.given p.ready p.starts (choose.Certify what text)))) r → Reaches held old new (certificate_work name then certifying what p) r
  certificate_answers name p text r works final =
      let f = Choosing (choose.given p.ready p.starts (choose.Certify what text)) in
      reaches_answer held old new (certificate_work name then certifying what p) f r
      (works_last held old new (certificate_work name) (certifying what p) text (Ok f) (Ok f) works refl refl) final

module _ (held : Bytes → Option Content) (log : Log) (m : Make) where
  pub make_stops : (e : Fault) → Comes {A = Problem} (made_problem m.size m.number) (Err e) → Reaches held log log (make_work m) (Err e)
  make_stops e comes = reaches_stop held log log (make_work m) e (works_ends held log (made_problem m.size m.number) (choosing choose.Measure) e comes)

  pub make_answers : (p : Problem) (r : Result Answer Fault) → made_problem m.size m.number ≡ Ok p → Final (Ok (Choosing (choose.given p.ready p.starts choose.Measure))) r → Reaches held log log (make_work m) r
  make_answers p r comes final =
      let f = Choosing (choose.given p.ready p.starts choose.Measure) in
      reaches_answer held log log (make_work m) f r
      (works_goes held log log (made_problem m.size m.number) (choosing choose.Measure) p (Ok f) comes (works_done held log (Ok f) (Ok f) refl)) final

-- ---- the command `version`

module _ (held : Bytes → Option Content) (log : Log) where
  version_reaches : (r : Result Answer Fault) → Final (Ok Introducing) r → Reaches held log log (work_of (Some ToVersion)) r
  version_reaches r final = reaches_answer held log log (work_of (Some ToVersion)) Introducing r (works_done held log (Ok Introducing) (Ok Introducing) refl) final

  pub version_stops : Reaches held log log (work_of (Some ToVersion)) (Err fault.Memory)
  version_stops = version_reaches (Err fault.Memory) refl

  pub version_answers : (line : List ℕ) → line ≡ version_line → Reaches held log log (work_of (Some ToVersion)) (Ok (answer.Text line grade.Good))
  version_answers line e = version_reaches (Ok (answer.Text line grade.Good)) ((e, refl), tt)
