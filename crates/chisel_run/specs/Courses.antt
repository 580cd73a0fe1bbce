-- What the runs of a command hand on, for the contracts of its private parts.
use Rattle.std.specs.Prelude.{ℕ, ◌≡◌, ◌+◌, ◌<◌, ℤ, List, map, length, count_by, sum_by, ◌⊎◌}
use Rattle.std.specs.Ordering.{int_eq}
use Rattle.rand_pcg.specs.Lcg.{Lcg}
use Rattle.rely_kernel.specs.declared.setting.Store.{Store}
use Rattle.rely_machine.specs.declared.outcome.Outcome.{Outcome}
use Rattle.rely_faults.specs.declared.outcome.Ended.{Ended}
use Rattle.rely_faults.specs.declared.outcome.Tried.{Tried}
use Rattle.rely_faults.specs.Setup.{EndsAs, Setup}
use Rattle.rely_kernel.specs.Rates.{own}
use Rattle.chisel_options.specs.declared.trials.Trials.{Trials}
use Rattle.chisel_lines.specs.declared.sample.SampleEnd.{SampleEnd}
use Rattle.rely_machine.specs.declared.fault.RunFault.{RunFault}
use Rattle.rely_machine.specs.declared.fault.RunFault.TheVariants as fault
use Rattle.chisel_source.specs.declared.ready.Ready.{Ready}
use Rattle.chisel_run.specs.Simulations.{AreSamples, AreTrials, IsSample, Sample, end_of, most_steps, seeded, steps_of}

-- a want of memory, or so many steps that the limit is reached
abbrev pub Exceeds : Type 0 → RunFault → Type 0
Exceeds P f = (f ≡ fault.Memory) ⊎ ((f ≡ fault.Steps) × P)

-- what is run, the steps that are left, and the generator
pub record Stage : Type 0 where
  pub ready : Ready
  pub left : ℕ
  pub words : Lcg

-- its trials, under the function's own kinds and memories
abbrev pub own_setup : Ready → Setup
own_setup r = record { kernel = r.linked.kernel; hardware = r.hardware; setting = own r.linked.kernel }

-- what is told of a trial
abbrev pub EndsTrial : Ready → Store → Lcg → Ended → Lcg → Type 0
EndsTrial r s g e g' = EndsAs (own_setup r) s g e g'

-- so many steps of the same were taken, and some are left
pub record Took (steps : ℕ) (old new : Stage) : Type 0 where
  pub ready : new.ready ≡ old.ready
  pub total : steps + new.left ≡ old.left
  pub some : 0 < new.left

-- so many trials from a start, and how many of them end with that result
pub record Agreed (r : Ready) (count : ℕ) (s : Store) (result : ℤ) (old new : Stage) (agreeing : ℕ) : Type 0 where
  pub trials : List Tried
  pub each : AreTrials r s old.words trials new.words
  pub many : length trials ≡ count
  pub agree : agreeing ≡ count_by (λ t. int_eq t.store.result result) trials
  pub took : Took (sum_by (λ t. t.steps) trials) old new

-- a sample, and what is told of it
pub record Sampled (r : Ready) (count : ℕ) (s : Store) (old new : Stage) (outcome : Outcome) (end : SampleEnd) : Type 0 where
  pub sample : Sample
  pub is : IsSample r count s old.words sample new.words
  pub outcome_of : outcome ≡ sample.outcome
  pub told : end ≡ end_of sample
  pub took : Took (steps_of sample) old new

-- the samples of all starts, with fewer steps than the limit
pub record Simulates (r : Ready) (trials : Trials) (starts : List Store) (outcomes : List Outcome) (ends : List SampleEnd) : Type 0 where
  pub samples : List Sample
  pub next : Lcg
  pub each : AreSamples r trials.count starts (seeded trials.seed) samples next
  pub few : sum_by steps_of samples < most_steps
  pub outcomes_of : outcomes ≡ map (λ x. x.outcome) samples
  pub told : ends ≡ map end_of samples
