-- The answer of `run` to what is asked.
use Rattle.std.specs.Prelude.{◌≡◌, ◌≤◌, List, length, None, ◌⊎◌}
use Rattle.std.specs.List.{All}
use Rattle.rely_num.specs.Texts.{Bytes}
use Rattle.rely_kernel.specs.Bound.{IsStart}
use Rattle.rely_kernel.specs.declared.setting.Store.{Store}
use Rattle.chisel_lines.specs.Faults.{Both}
use Rattle.chisel_lines.specs.Refusals.{refusal_line}
use Rattle.chisel_lines.specs.declared.refusal.Limit.TheVariants.{Steps}
use Rattle.chisel_lines.specs.declared.refusal.Refusal.TheVariants as refusal
use Rattle.chisel_lines.specs.declared.status.Status.{Status}
use Rattle.chisel_lines.specs.declared.status.Status.TheVariants as status
use Rattle.chisel_source.specs.declared.ready.Ready.{Ready}
use Rattle.chisel_source.specs.Meaning.{AreClosed, IsReady}
use Rattle.chisel_options.specs.declared.trials.Trials.{Trials}
use Rattle.chisel_run.specs.Calls.{barred_call}
use Rattle.chisel_run.specs.Simulations.{RunsPass, RunsTell, most_steps}

-- what is ready, the starts of its function, and what follows each reliable run
pub record Input : Type 0 where
  pub ready : Ready
  pub trials : Trials
  pub starts : List Store

abbrev pub asked : Ready → Trials → List Store → Input
asked r trials starts = record { ready = r; trials = trials; starts = starts }

-- a source that means functions on a hardware, of which no place is open
pub record IsRunnable (r : Ready) : Type 0 where
  pub ready : IsReady r
  pub closed : AreClosed r.linked

-- the starts are some of the function, which calls nothing where trials are asked of it
pub record IsInput (i : Input) : Type 0 where
  pub runnable : IsRunnable i.ready
  pub unbarred : barred_call i.trials i.ready.linked.kernel ≡ None
  pub starts : All (IsStart i.ready.linked.kernel) i.starts
  pub some : 1 ≤ length i.starts
  pub few : length i.starts ≤ 64

-- the line of too many steps
abbrev pub steps_line : Bytes
steps_line = refusal_line (refusal.Limit Steps most_steps)

-- the lines of all runs, or that they take too many steps
abbrev pub IsAnswer : Input → Bytes → Status → Type 0
IsAnswer i text s =
    (RunsTell i.ready i.trials i.starts text × (s ≡ status.Done))
    ⊎ (RunsPass i.ready i.trials i.starts × Both text s steps_line status.Limit)

-- what is asked has an answer
abbrev pub HasAnswer : Type 0
HasAnswer = (i : Input) → IsInput i → (text : Bytes) × (s : Status) × IsAnswer i text s

-- and no other
abbrev pub OneAnswer : Type 0
OneAnswer = (i : Input) (text text' : Bytes) (s s' : Status) → IsAnswer i text s → IsAnswer i text' s' → Both text s text' s'
