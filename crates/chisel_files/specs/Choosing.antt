-- What the commands begin with that choose kinds and memories, as work over files.
use Rattle.std.specs.Prelude.{ℕ, ◌≤◌, codes, List, length, Option, Some, None, Result, Ok, Err}
use Rattle.std.specs.List.{All, AllByRecursion}
use Rattle.rely_num.specs.Texts.{Bytes}
use Rattle.rely_kernel.specs.Bound.{IsStart}
use Rattle.rely_kernel.specs.Setting.{IsClosed}
use Rattle.rely_kernel.specs.declared.kernel.Linked.{Linked}
use Rattle.rely_kernel.specs.declared.setting.Store.{Store}
use Rattle.rely_inputs.specs.Samples.{samples_of}
use Rattle.chisel_lines.specs.Faults.{Stop, Refused}
use Rattle.chisel_lines.specs.declared.refusal.Reason.TheVariants.{Closed, Mark}
use Rattle.chisel_lines.specs.declared.refusal.Refusal.TheVariants.{Source}
use Rattle.chisel_make.specs.Draws.{after}
use Rattle.chisel_make.specs.Made as made
use Rattle.chisel_source.specs.Meaning.{IsReady, meaning, ready_by, unit_in}
use Rattle.chisel_source.specs.Open.{open_place, open_place_in}
use Rattle.chisel_source.specs.declared.ready.Ready.{Ready}
use Rattle.chisel_source.specs.declared.ready.Meant.{Meant}
use Rattle.chisel_files.specs.declared.choosing.Problem.{Problem}
use Rattle.chisel_files.specs.Files.{file}
use Rattle.chisel_files.specs.Front.{ready_work, starts_work}
use Rattle.chisel_files.specs.Refused.{input_refusal, meaning_refusal, source_refusal, stopped_by}
use Rattle.chisel_files.specs.Works.{Done, Work, ◌then◌}

-- ---- marks

-- some place of the function is open
abbrev pub unless_closed : Option ℕ → Ready → Result Ready Stop
unless_closed None r = Err (Refused (Some (Source Closed r.linked.kernel.name.from)))
unless_closed (Some place) r = Ok r

-- and none of the functions that it reaches, which are looked at first
abbrev pub opening_behind : Option ℕ → Ready → Result Ready Stop
opening_behind (Some place) r = Err (Refused (Some (Source Mark place)))
opening_behind None r = unless_closed (open_place r.linked.kernel) r

abbrev pub opening : Ready → Result Ready Stop
opening r = opening_behind (open_place_in r.linked.inner) r

abbrev pub opening_in : Ready → Work Ready
opening_in r = Done (opening r)

abbrev pub open_work : Bytes → Bytes → Bytes → Work Ready
open_work source hardware function = ready_work source hardware function then opening_in

-- so the function leaves some place open, and none that it reaches does
pub record IsOpen (l : Linked) : Type 0 where
  pub inner : AllByRecursion IsClosed l.inner
  pub some : IsClosed l.kernel → ⊥

-- ---- files

abbrev pub problem_by : Ready → List Store → Problem
problem_by r starts = record { ready = r; starts = starts }

abbrev pub problem_from : Ready → List Store → Work Problem
problem_from r starts = Done (Ok (problem_by r starts))

abbrev pub starting : Bytes → Ready → Work Problem
starting inputs r = starts_work r.linked.kernel inputs then problem_from r

-- the source and the hardware, the marks, and then the sample inputs
abbrev pub problem_work : Bytes → Bytes → Bytes → Bytes → Work Problem
problem_work source hardware inputs function = open_work source hardware function then starting inputs

-- the last length of a certificate, in bytes
abbrev pub longest_certificate : ℕ
longest_certificate = 4194304

-- the text of a certificate
abbrev pub certificate_work : Bytes → Work Bytes
certificate_work certificate = file certificate longest_certificate

-- what is known of a problem: some place of the function is open, and there are 1 to 64 starts of it
pub record IsProblem (p : Problem) : Type 0 where
  pub ready : IsReady p.ready
  pub is_open : IsOpen p.ready.linked
  pub starts : All (IsStart p.ready.linked.kernel) p.starts
  pub some : 1 ≤ length p.starts
  pub few : length p.starts ≤ 64

-- ---- made problems

infixl 10 ◌>>=◌
abbrev pub ◌>>=◌ : {A B : Type 0} → Result A Stop → (A → Result B Stop) → Result B Stop
Ok a >>= f = f a
Err stop >>= f = Err stop

-- what the source of a made problem means on its hardware
abbrev pub made_meaning : Bytes → Bytes → Result Meant Stop
made_meaning source hardware =
    stopped_by source_refusal (unit_in source) >>= λ unit. stopped_by meaning_refusal (meaning unit (codes "made") hardware)

-- with the sample that its inputs say
abbrev pub made_starts : Bytes → Ready → Result Problem Stop
made_starts inputs r = stopped_by input_refusal (samples_of r.linked.kernel inputs) >>= λ starts. Ok (problem_by r starts)

-- what these texts come to, which are read as those of files
abbrev pub problem_in : Bytes → Bytes → Bytes → Result Problem Stop
problem_in source hardware inputs =
    made_meaning source hardware >>= λ m. opening (ready_by source m) >>= λ r. made_starts inputs r

abbrev pub made_problem : ℕ → ℕ → Result Problem Stop
made_problem size number = problem_in (made.source size number) made.hardware (made.inputs (after size number))
