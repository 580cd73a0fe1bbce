-- What is printed of the runs of a function: of each sample its reliable run, and its trials behind it.
use Rattle.std.specs.Prelude.{ℕ, ◌≡◌, ◌+◌, ◌<◌, List, [], ◌∷◌, ◌++◌, map, length, count_by, sum_by, ◌⊎◌}
use Rattle.std.specs.Ordering.{int_eq}
use Rattle.rand_core.specs.Pcg32Seed.{pcg32_seed}
use Rattle.rand_pcg.specs.Lcg.{Lcg}
use Rattle.rand_pcg.specs.Pcg.{pcg64_of_seed}
use Rattle.rely_num.specs.Texts.{Bytes}
use Rattle.rely_kernel.specs.declared.setting.Store.{Store}
use Rattle.rely_kernel.specs.Rates.{own}
use Rattle.rely_machine.specs.declared.outcome.Outcome.{Outcome}
use Rattle.rely_machine.specs.Cost.{IsCost}
use Rattle.rely_machine.specs.Run.{IsOutcome, ReachesLimit}
use Rattle.rely_faults.specs.declared.outcome.Tried.{Tried}
use Rattle.rely_faults.specs.Trial.{IsTried, PassesLimit}
use Rattle.chisel_options.specs.declared.trials.Trials.{Trials}
use Rattle.chisel_lines.specs.declared.sample.SampleEnd.{SampleEnd}
use Rattle.chisel_lines.specs.SampleLines.{energy_line, sample_lines}
use Rattle.chisel_source.specs.declared.ready.Ready.{Ready}

-- the steps that a command may not reach in all its runs and trials together
abbrev pub most_steps : ℕ
most_steps = 67108864

-- the generator of a seed
abbrev pub seeded : ℕ → Lcg
seeded seed = pcg64_of_seed (pcg32_seed 32 seed)

-- ---- trials

-- a trial of the function from a start, under its own kinds and memories: what it gives, and the generator that it leaves
abbrev pub IsTrial : Ready → Store → Lcg → Tried → Lcg → Type 0
IsTrial r s g t g' = IsTried r.linked.kernel r.hardware (own r.linked.kernel) s g t g'

-- one trial after another, each on the generator that the one before leaves
abbrev pub AreTrials : Ready → Store → Lcg → List Tried → Lcg → Type 0
AreTrials r s g [] g' = g' ≡ g
AreTrials r s g (t ∷ ts) g' = (next : Lcg) × IsTrial r s g t next × AreTrials r s next ts g'

-- ---- samples

pub record Sample : Type 0 where
  pub outcome : Outcome
  pub trials : List Tried

abbrev pub steps_of : Sample → ℕ
steps_of x = x.outcome.steps + sum_by (λ t. t.steps) x.trials

-- how many trials end with the result of the reliable run
abbrev pub agreeing : Sample → ℕ
agreeing x = count_by (λ t. int_eq t.store.result x.outcome.store.result) x.trials

abbrev pub end_of : Sample → SampleEnd
end_of x = record { result = x.outcome.store.result; steps = x.outcome.steps; agreeing = agreeing x }

-- the reliable run from a start, and so many trials behind it
pub record IsSample (r : Ready) (count : ℕ) (s : Store) (g : Lcg) (x : Sample) (g' : Lcg) : Type 0 where
  pub outcome : IsOutcome r.linked s x.outcome
  pub trials : AreTrials r s g x.trials g'
  pub many : length x.trials ≡ count

-- one sample after another, all trials on one generator
abbrev pub AreSamples : Ready → ℕ → List Store → Lcg → List Sample → Lcg → Type 0
AreSamples r count [] g [] g' = g' ≡ g
AreSamples r count (s ∷ ss) g (x ∷ xs) g' = (next : Lcg) × IsSample r count s g x next × AreSamples r count ss next xs g'
AreSamples r count [] g (x ∷ xs) g' = ⊥
AreSamples r count (s ∷ ss) g [] g' = ⊥

-- the runs from all starts, with fewer steps than the limit: their lines, and the energy of the reliable ones under the
-- function's own kinds
pub record RunsTell (r : Ready) (trials : Trials) (starts : List Store) (lines : Bytes) : Type 0 where
  pub samples : List Sample
  pub left : Lcg
  pub energy : ℕ
  pub each : AreSamples r trials.count starts (seeded trials.seed) samples left
  pub few : sum_by steps_of samples < most_steps
  pub cost : IsCost r.hardware r.linked (own r.linked.kernel) starts energy
  pub text : lines ≡ sample_lines trials.count 1 (map end_of samples) ++ energy_line energy

-- ---- the limit

-- some trials from a start, fewer than are asked for, and then one more take so many steps or more
pub record TrialsPass (r : Ready) (count : ℕ) (s : Store) (g : Lcg) (limit : ℕ) : Type 0 where
  pub trials : List Tried
  pub next : Lcg
  pub each : AreTrials r s g trials next
  pub fewer : length trials < count
  pub left : ℕ
  pub total : sum_by (λ t. t.steps) trials + left ≡ limit
  pub passes : PassesLimit r.linked.kernel r.hardware (own r.linked.kernel) s next left

-- the reliable run from a start does, or it and some trials behind it
abbrev pub SamplePasses : Ready → ℕ → Store → Lcg → ℕ → Type 0
SamplePasses r count s g limit =
    ReachesLimit r.linked s limit ⊎ ((o : Outcome) × (left : ℕ) × IsOutcome r.linked s o × (o.steps + left ≡ limit) × TrialsPass r count s g left)

-- the runs and trials take too many steps together: those of the first samples, and then some of the next
pub record RunsPass (r : Ready) (trials : Trials) (starts : List Store) : Type 0 where
  pub front : List Store
  pub start : Store
  pub rest : List Store
  pub in_order : front ++ start ∷ rest ≡ starts
  pub samples : List Sample
  pub next : Lcg
  pub each : AreSamples r trials.count front (seeded trials.seed) samples next
  pub left : ℕ
  pub total : sum_by steps_of samples + left ≡ most_steps
  pub passes : SamplePasses r trials.count start next left
