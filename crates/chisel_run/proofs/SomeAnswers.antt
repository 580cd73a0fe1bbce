-- What is asked has an answer: each run and each trial ends, so all of them take fewer steps than the limit, or there is one
-- with which they take as many.
use Rattle.std.proofs.Common.{◌≡◌, ℕ, zero, suc, ◌+◌, ◌-◌, ◌<◌, ◌≤◌, Bool, true, false, nat_lt, List, [], ◌∷◌, ◌++◌, length, map, sum_by, refl, ap, arith, ◌⊎◌, inl, inr}
use Rattle.std.proofs.lemmas.Bool.{ltb-true, ltb-false}
use Rattle.std.proofs.lemmas.List.Sums.{sum_by-cons}
use Rattle.std.proofs.lemmas.List.Elements.{recursion_from_All}
use Rattle.std.specs.List.{AllByRecursion, AllZip}
use Rattle.rand_pcg.specs.Lcg.{Lcg}
use Rattle.rely_num.specs.Texts.{Bytes}
use Rattle.rely_kernel.specs.Bound.{IsStart}
use Rattle.rely_kernel.specs.Rates.{own}
use Rattle.rely_kernel.specs.Valid.{IsLinked}
use Rattle.rely_kernel.specs.declared.setting.Store.{Store}
use Rattle.rely_machine.specs.declared.outcome.Outcome.{Outcome}
use Rattle.rely_machine.specs.EnergySums.{of_runs}
use Rattle.rely_machine.specs.Run.{IsOutcome}
use Rattle.rely_machine.proofs.Determined.{has_outcome, reaches_by_outcome}
use Rattle.rely_machine.proofs.EnergyRuns.{cost_by_uses}
use Rattle.rely_faults.proofs.Finishing.{has_outcome as has_tried}
use Rattle.rely_faults.specs.declared.outcome.Tried.{Tried}
use Rattle.chisel_lines.specs.SampleLines.{energy_line, sample_lines}
use Rattle.chisel_lines.specs.declared.status.Status.{Status}
use Rattle.chisel_lines.specs.declared.status.Status.TheVariants as status
use Rattle.chisel_source.specs.declared.ready.Ready.{Ready}
use Rattle.chisel_run.specs.Answer.{HasAnswer, Input, IsAnswer, IsInput, steps_line}
use Rattle.chisel_run.specs.Simulations.{AreSamples, AreTrials, IsSample, IsTrial, RunsPass, RunsTell, Sample, SamplePasses, TrialsPass, end_of, most_steps, seeded, steps_of}
use Rattle.chisel_run.proofs.Sampling.{unbarred}

-- a number reaches another, or is below it
apart : (a b : ℕ) → (a < b) ⊎ (b ≤ a)
apart a b = by_test (nat_lt a b) refl
  where
    by_test : (t : Bool) → nat_lt a b ≡ t → (a < b) ⊎ (b ≤ a)
    by_test true e = inl (ltb-true a b e)
    by_test false e = inr (ltb-false a b e)

-- what is left of a greater number
left_of : (a b : ℕ) → a < b → (n : ℕ) × (a + n ≡ b) × (0 < n)
left_of a b h = (b - a, omega (arith, h), omega (arith, h))

module _ (r : Ready) (linked : IsLinked r.linked) where
  -- so many trials with fewer steps than are left
  pub record TrialsEnd (n : ℕ) (s : Store) (g : Lcg) (left : ℕ) : Type 0 where
    pub trials : List Tried
    pub next : Lcg
    pub each : AreTrials r s g trials next
    pub many : length trials ≡ n
    pub few : sum_by (λ t. t.steps) trials < left

  trials_end : (n : ℕ) (s : Store) (g : Lcg) (left : ℕ) → (0 < n → r.linked.kernel.calls ≡ []) → 0 < left → TrialsEnd n s g left ⊎ TrialsPass r n s g left
  trials_end zero s g left calls some = inl (record { trials = []; next = g; each = refl; many = refl; few = some })
  trials_end (suc n) s g left calls some =
      let none = calls (omega arith) in
      let first = has_tried r.linked.kernel r.hardware (own r.linked.kernel) s g none in
      by_steps (λ next more. trials_end n s next more (λ _. none)) first.0 first.1 first.2 (apart first.0.steps left)
    where
      with_rest : (t : Tried) (next : Lcg) (more : ℕ) → IsTrial r s g t next → t.steps + more ≡ left → TrialsEnd n s next more ⊎ TrialsPass r n s next more → TrialsEnd (suc n) s g left ⊎ TrialsPass r (suc n) s g left
      with_rest t next more is total (inl e) =
          let all = sum_by-cons (λ (v : Tried). v.steps) t e.trials in
          inl (record { trials = t ∷ e.trials; next = e.next; each = (next, is, e.each); many = ap suc e.many; few = omega (arith, all, total, e.few) })
      with_rest t next more is total (inr p) =
          let all = sum_by-cons (λ (v : Tried). v.steps) t p.trials in
          inr (record { trials = t ∷ p.trials; next = p.next; each = (next, is, p.each); fewer = omega (arith, p.fewer); left = p.left; total = omega (arith, all, total, p.total); passes = p.passes })

      by_steps : ((next : Lcg) (more : ℕ) → 0 < more → TrialsEnd n s next more ⊎ TrialsPass r n s next more) → (t : Tried) (next : Lcg) → IsTrial r s g t next → (t.steps < left) ⊎ (left ≤ t.steps)
          → TrialsEnd (suc n) s g left ⊎ TrialsPass r (suc n) s g left
      by_steps on t next is (inl below) = let rest = left_of t.steps left below in with_rest t next rest.0 is rest.1 (on next rest.0 rest.2)
      by_steps on t next is (inr beyond) =
          inr (record { trials = []; next = g; each = refl; fewer = omega arith; left = left; total = omega arith; passes = record { n = is.n; steps = omega (arith, beyond, is.steps) } })

  module _ (count : ℕ) (calls : 0 < count → r.linked.kernel.calls ≡ []) where
    -- a sample with fewer steps than are left
    pub record SampleEnds (s : Store) (g : Lcg) (left : ℕ) : Type 0 where
      pub sample : Sample
      pub next : Lcg
      pub is : IsSample r count s g sample next
      pub few : steps_of sample < left

    sample_ends : (s : Store) (g : Lcg) (left : ℕ) → IsStart r.linked.kernel s → 0 < left → SampleEnds s g left ⊎ SamplePasses r count s g left
    sample_ends s g left start some = let run = has_outcome r.linked s linked start in by_steps run.0 run.1 (apart run.0.steps left)
      where
        with_trials : (o : Outcome) (more : ℕ) → IsOutcome r.linked s o → o.steps + more ≡ left → TrialsEnd count s g more ⊎ TrialsPass r count s g more → SampleEnds s g left ⊎ SamplePasses r count s g left
        with_trials o more is total (inl e) =
            inl (record { sample = record { outcome = o; trials = e.trials }; next = e.next; is = record { outcome = is; trials = e.each; many = e.many }; few = omega (arith, total, e.few) })
        with_trials o more is total (inr p) = inr (inr (o, more, is, total, p))

        by_steps : (o : Outcome) → IsOutcome r.linked s o → (o.steps < left) ⊎ (left ≤ o.steps) → SampleEnds s g left ⊎ SamplePasses r count s g left
        by_steps o is (inl below) = let rest = left_of o.steps left below in with_trials o rest.0 is rest.1 (trials_end count s g rest.0 calls rest.2)
        by_steps o is (inr beyond) = inr (inl ((reaches_by_outcome r.linked s o left is).1 beyond))

    -- the samples of all starts with fewer steps than are left
    pub record SamplesEnd (ss : List Store) (g : Lcg) (left : ℕ) : Type 0 where
      pub samples : List Sample
      pub next : Lcg
      pub each : AreSamples r count ss g samples next
      pub few : sum_by steps_of samples < left

    -- or those of a front, and then one that takes too many
    pub record SamplesPass (ss : List Store) (g : Lcg) (limit : ℕ) : Type 0 where
      pub front : List Store
      pub start : Store
      pub rest : List Store
      pub in_order : front ++ start ∷ rest ≡ ss
      pub samples : List Sample
      pub next : Lcg
      pub each : AreSamples r count front g samples next
      pub left : ℕ
      pub total : sum_by steps_of samples + left ≡ limit
      pub passes : SamplePasses r count start next left

    samples_end : (ss : List Store) (g : Lcg) (left : ℕ) → AllByRecursion (IsStart r.linked.kernel) ss → 0 < left → SamplesEnd ss g left ⊎ SamplesPass ss g left
    samples_end [] g left starts some = inl (record { samples = []; next = g; each = refl; few = some })
    samples_end (s ∷ ss) g left starts some = by_first (λ next more. samples_end ss next more starts.1) (sample_ends s g left starts.0 some)
      where
        with_rest : (x : Sample) (next : Lcg) (more : ℕ) → IsSample r count s g x next → steps_of x + more ≡ left → SamplesEnd ss next more ⊎ SamplesPass ss next more → SamplesEnd (s ∷ ss) g left ⊎ SamplesPass (s ∷ ss) g left
        with_rest x next more is total (inl e) =
            let all = sum_by-cons steps_of x e.samples in
            inl (record { samples = x ∷ e.samples; next = e.next; each = (next, is, e.each); few = omega (arith, all, total, e.few) })
        with_rest x next more is total (inr p) =
            let all = sum_by-cons steps_of x p.samples in
            inr (record {
              front = s ∷ p.front;
              start = p.start;
              rest = p.rest;
              in_order = ap (λ (zs : List Store). s ∷ zs) p.in_order;
              samples = x ∷ p.samples;
              next = p.next;
              each = (next, is, p.each);
              left = p.left;
              total = omega (arith, all, total, p.total);
              passes = p.passes;
            })

        by_first : ((next : Lcg) (more : ℕ) → 0 < more → SamplesEnd ss next more ⊎ SamplesPass ss next more) → SampleEnds s g left ⊎ SamplePasses r count s g left → SamplesEnd (s ∷ ss) g left ⊎ SamplesPass (s ∷ ss) g left
        by_first on (inl e) = let rest = left_of (steps_of e.sample) left e.few in with_rest e.sample e.next rest.0 e.is rest.1 (on e.next rest.0 rest.2)
        by_first on (inr p) =
            inr (record { front = []; start = s; rest = ss; in_order = refl; samples = []; next = g; each = refl; left = left; total = omega arith; passes = p })

    each_outcome : (ss : List Store) (xs : List Sample) (g h : Lcg) → AreSamples r count ss g xs h → AllZip (IsOutcome r.linked) ss (map (λ x. x.outcome) xs)
    each_outcome [] [] g h each = tt
    each_outcome [] (x ∷ xs) g h each = absurd each
    each_outcome (t ∷ ss) [] g h each = absurd each
    each_outcome (t ∷ ss) (x ∷ xs) g h each = (each.1.outcome, each_outcome ss xs each.0 h each.2)

module _ (i : Input) (is : IsInput i) where
  by_end : SamplesEnd i.ready is.runnable.ready.linked i.trials.count (unbarred i.trials i.ready.linked.kernel is.unbarred) i.starts (seeded i.trials.seed) most_steps
      ⊎ SamplesPass i.ready is.runnable.ready.linked i.trials.count (unbarred i.trials i.ready.linked.kernel is.unbarred) i.starts (seeded i.trials.seed) most_steps
      → (text : Bytes) × (s : Status) × IsAnswer i text s
  by_end (inl e) =
      let outcomes : List Outcome = map (λ (x : Sample). x.outcome) e.samples in
      let energy : ℕ = of_runs i.ready.hardware i.ready.linked (own i.ready.linked.kernel) outcomes in
      let each = each_outcome i.ready is.runnable.ready.linked i.trials.count (unbarred i.trials i.ready.linked.kernel is.unbarred) i.starts e.samples (seeded i.trials.seed) e.next e.each in
      let told : RunsTell i.ready i.trials i.starts (sample_lines i.trials.count 1 (map end_of e.samples) ++ energy_line energy) =
      record {
        samples = e.samples;
        left = e.next;
        energy = energy;
        each = e.each;
        few = e.few;
        cost = cost_by_uses i.ready.hardware i.ready.linked (own i.ready.linked.kernel) i.starts outcomes is.runnable.ready.linked each;
        text = refl;
      } in
      (sample_lines i.trials.count 1 (map end_of e.samples) ++ energy_line energy, status.Done, inl (told, refl))
  by_end (inr p) =
      let passed : RunsPass i.ready i.trials i.starts =
      record { front = p.front; start = p.start; rest = p.rest; in_order = p.in_order; samples = p.samples; next = p.next; each = p.each; left = p.left; total = p.total; passes = p.passes } in
      (steps_line, status.Limit, inr (passed, (refl, refl)))

pub has_answer : HasAnswer
has_answer i is =
    let calls = unbarred i.trials i.ready.linked.kernel is.unbarred in
    by_end i is (samples_end i.ready is.runnable.ready.linked i.trials.count calls i.starts (seeded i.trials.seed) most_steps (recursion_from_All (IsStart i.ready.linked.kernel) i.starts is.starts) (omega arith))
