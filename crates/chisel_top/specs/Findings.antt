-- What the words find in contents of their files, and the text and the status that answer it.
-- It knows nothing of memory, of a fetch that fails, or of a put.
use Rattle.std.specs.Prelude.{ℕ, List, Option, Some, None, Result, Ok, Err}
use Rattle.rely_num.specs.Texts.{Bytes}
use Rattle.rely_kernel.specs.declared.setting.Store.{Store}
use Rattle.chisel_optimise.specs.Answers as choose
use Rattle.chisel_optimise.specs.Promises as choose_promises
use Rattle.chisel_optimise.specs.declared.certified.Asked.{Asked}
use Rattle.chisel_optimise.specs.declared.certified.Asked.TheVariants as certificate
use Rattle.chisel_files.specs.declared.choosing.Problem.{Problem}
use Rattle.chisel_files.specs.Choosing.{certificate_work, made_problem, problem_work}
use Rattle.chisel_files.specs.Front.{closed_work, starts_work}
use Rattle.chisel_files.specs.Works.{Content, Done, Work, found, opened, ◌then◌}
use Rattle.chisel_lines.specs.Faults.{Both, IsStop, NoForm, Refused, Stop}
use Rattle.chisel_lines.specs.declared.refusal.Reason.TheVariants as reason
use Rattle.chisel_lines.specs.declared.refusal.Refusal.TheVariants.{Source}
use Rattle.chisel_lines.specs.declared.status.Status.{Status}
use Rattle.chisel_lines.specs.declared.status.Status.TheVariants as status
use Rattle.chisel_lines.specs.Versions.{version_line}
use Rattle.chisel_source.specs.declared.ready.Ready.{Ready}
use Rattle.chisel_run.specs.Answer as runs
use Rattle.chisel_run.specs.Calls.{barred_call}
use Rattle.chisel_verify.specs.Answer as verify
use Rattle.chisel_verify.specs.Promises as verify_promises
use Rattle.chisel_top.specs.Rewriting as rewriting
use Rattle.chisel_options.specs.declared.trials.Trials.{Trials}
use Rattle.chisel_words.specs.Words.{Certified, Command, Make, Optimise, Simulate, ToCheck, ToMake, ToMigrate, ToOptimise, ToRewrite, ToRun, ToVerify, ToVersion, Verify, form}

-- what each family is asked
pub data Finding : Type 0 where
  -- the claims are judged
  Judging : verify.Input → Finding
  -- the function is run
  Running : runs.Input → Finding
  -- its kinds and memories are chosen
  Choosing : choose.Input → Finding
  -- the program says its name and its version
  Introducing : Finding

-- ---- the order of work

-- no call bars the trials
abbrev pub unless_barred : {A : Type 0} → Option ℕ → A → Result A Stop
unless_barred None a = Ok a
unless_barred (Some place) a = Err (Refused (Some (Source reason.Trials place)))

abbrev pub unbarred : Trials → Ready → Result Ready Stop
unbarred trials r = unless_barred (barred_call trials r.linked.kernel) r

abbrev pub judging : Verify → Ready → Work Finding
judging v r = Done (Ok (Judging (verify.asked r v.callees)))

abbrev pub running_from : Simulate → Ready → List Store → Work Finding
running_from w r starts = Done (Ok (Running (runs.asked r w.trials starts)))

abbrev pub inputs_of : Simulate → Ready → Work Finding
inputs_of w r = starts_work r.linked.kernel w.inputs then running_from w r

abbrev pub running : Simulate → Ready → Work Finding
running w r = Done (unbarred w.trials r) then inputs_of w

abbrev pub choosing : choose.Job → Problem → Work Finding
choosing job p = Done (Ok (Choosing (choose.given p.ready p.starts job)))

abbrev pub optimise_work : Optimise → Work Finding
optimise_work w = problem_work w.source w.hardware w.inputs w.function then choosing (choose.Optimise w.search)

abbrev pub certifying : Asked → Problem → Bytes → Work Finding
certifying what p text = choosing (choose.Certify what text) p

abbrev pub certificate_of : Asked → Certified → Problem → Work Finding
certificate_of what w p = certificate_work w.certificate then certifying what p

abbrev pub certified_work : Asked → Certified → Work Finding
certified_work what w = problem_work w.source w.hardware w.inputs w.function then certificate_of what w

-- a made problem takes no files
abbrev pub make_work : Make → Work Finding
make_work m = Done (made_problem m.size m.number) then choosing choose.Measure

-- the files of the words, one after another, up to what the family is asked
abbrev pub work_of : Option Command → Work Finding
work_of None = Done (Err NoForm)
work_of (Some (ToVerify v)) = closed_work v.source v.hardware v.function then judging v
work_of (Some (ToOptimise w)) = optimise_work w
work_of (Some (ToCheck w)) = certified_work certificate.Check w
work_of (Some (ToRewrite w)) = certified_work certificate.Rewrite w
work_of (Some (ToMigrate w)) = certified_work certificate.Migrate w
work_of (Some (ToRun w)) = closed_work w.source w.hardware w.function then running w
work_of (Some (ToMake w)) = make_work w
work_of (Some ToVersion) = Done (Ok Introducing)

-- what is found in contents of the files that the words name, in order
abbrev pub finding : List Bytes → List Content → Result Finding Stop
finding words got = found (work_of (form words)) got

-- the names that are opened for these contents
abbrev pub opened_for : List Bytes → List Content → List Bytes
opened_for words got = opened (work_of (form words)) got

-- ---- answers

-- the text and the status that answer it
abbrev pub IsAnswer : Result Finding Stop → Bytes → Status → Type 0
IsAnswer (Ok (Judging i)) text s = verify.IsAnswer i text s
IsAnswer (Ok (Running i)) text s = runs.IsAnswer i text s
IsAnswer (Ok (Choosing i)) text s = choose.IsAnswer i text s
IsAnswer (Ok Introducing) text s = Both text s version_line status.Done
IsAnswer (Err stop) text s = IsStop stop text s

-- there is at most one
abbrev pub OneAnswer : Type 0
OneAnswer = (f : Result Finding Stop) (text text' : Bytes) (s s' : Status) → IsAnswer f text s → IsAnswer f text' s' → Both text s text' s'

-- what a family is asked is of a source that means something, and its places are open or not as the command wants them
abbrev pub IsSound : Finding → Type 0
IsSound (Judging i) = verify_promises.IsInput i
IsSound (Running i) = runs.IsInput i
IsSound (Choosing i) = choose_promises.IsInput i
IsSound Introducing = Unit {0}

-- what the lines of its answer promise of runs on unreliable hardware
abbrev pub Promise : Result Finding Stop → Type 0
Promise (Ok (Judging i)) = verify_promises.Promise i
Promise (Ok (Running i)) = Unit {0}
Promise (Ok (Choosing i)) = choose_promises.Promise i × rewriting.Promise i
Promise (Ok Introducing) = Unit {0}
Promise (Err stop) = Unit {0}
