-- The runs from all starts with their trials, one after the other.
use Rattle.std.proofs.Common.{◌≡◌, ℕ, suc, ◌+◌, ◌<◌, ◌≤◌, cond, List, [], ◌∷◌, ◌++◌, map, take, drop, get_or, length, None, option_map, slice_get, refl, sym, ap, subst, ◌∙◌, arith, inl, inr, true, false, Bool, length-append}
use Rattle.std.specs.Prelude.{ℤ, ◌==◌, sum_by, if◌then◌else◌}
use Rattle.std.specs.Ordering.{int_eq}
use Rattle.std.specs.List.{AllZip}
use Rattle.std.proofs.lemmas.Bool.{eqb-true}
use Rattle.std.proofs.lemmas.List.{drop_more, map-append, take-append-drop, take_more}
use Rattle.std.proofs.lemmas.List.Sums.{count_by-le-length, sum_by-cons, sum_by_push}
use Rattle.rand_pcg.specs.Lcg.{Lcg}
use Rattle.rely_num.specs.Texts.{Bytes}
use Rattle.rely_kernel.specs.declared.kernel.CallSite.{CallSite}
use Rattle.rely_kernel.specs.declared.kernel.Kernel.{Kernel}
use Rattle.rely_kernel.specs.declared.setting.Store.{Store}
use Rattle.rely_kernel.specs.Rates.{own}
use Rattle.rely_machine.specs.declared.outcome.Outcome.{Outcome}
use Rattle.rely_machine.specs.Cost.{IsCost}
use Rattle.rely_machine.specs.Run.{IsOutcome, ReachesLimit}
use Rattle.rely_faults.specs.declared.outcome.Ended.{Ended}
use Rattle.rely_faults.specs.declared.outcome.Tried.{Tried}
use Rattle.rely_faults.specs.Trial.{PassesLimit}
use Rattle.chisel_options.specs.declared.trials.Trials.{Trials}
use Rattle.chisel_lines.specs.SampleLines.{energy_line, sample_lines}
use Rattle.chisel_lines.specs.declared.sample.SampleEnd.{SampleEnd}
use Rattle.rely_machine.specs.declared.fault.RunFault.{RunFault}
use Rattle.chisel_source.specs.declared.ready.Ready.{Ready}
use Rattle.chisel_run.specs.Courses.{Agreed, EndsTrial, Exceeds, Sampled, Simulates, Stage, Took}
use Rattle.chisel_run.specs.Calls.{barred_call}
use Rattle.chisel_run.specs.Simulations.{AreSamples, AreTrials, IsSample, IsTrial, RunsPass, RunsTell, Sample, SamplePasses, TrialsPass, end_of, most_steps, seeded, steps_of}

-- a fault of a part is one of the whole
exceeds_by : (P Q : Type 0) (f : RunFault) → (P → Q) → Exceeds P f → Exceeds Q f
exceeds_by P Q f leads e = elim e [ inl m ↦ inl m | inr p ↦ inr (p.0, leads p.1) ]

-- ---- trials

-- one more
trials_push : (r : Ready) (s : Store) (ts : List Tried) (g h g' : Lcg) (t : Tried) → AreTrials r s g ts h → IsTrial r s h t g' → AreTrials r s g (ts ++ t ∷ []) g'
trials_push r s [] g h g' t same is = (g', subst (λ (x : Lcg). IsTrial r s x t g') same is, refl)
trials_push r s (u ∷ ts) g h g' t each is = (each.0, each.1, trials_push r s ts each.0 h g' t each.2 is)

-- the count goes on where the test says so
pub counted_yes : (n m : ℕ) (p b : Bool) → b ≡ p → b ≡ true → m ≡ n + 1 → m ≡ n + cond p 1 0
counted_yes n m true b same is e = e
counted_yes n m false b same is e = absurd (cc)

pub counted_no : (n m : ℕ) (p b : Bool) → b ≡ p → b ≡ false → m ≡ n → m ≡ n + cond p 1 0
counted_no n m true b same is e = absurd (cc)
counted_no n m false b same is e = omega (arith, e)

module _ (s : Store) (wanted : ℤ) (a b : Stage) (done n : ℕ) (agreed : Agreed a.ready done s wanted a b n) where
  pub agreed_more : (c : Stage) (e : Ended) (m : ℕ) → EndsTrial b.ready s b.words e c.words → Took e.steps b c → m ≡ n + cond (int_eq e.result wanted) 1 0
      → Agreed a.ready (done + 1) s wanted a c m
  agreed_more c e m ends took counted =
      let t = ends.tried in
      let is : IsTrial a.ready s b.words t c.words = subst (λ (x : Ready). IsTrial x s b.words t c.words) agreed.took.ready ends.is in
      let total = sum_by_push (λ (u : Tried). u.steps) agreed.trials t in
      let count = sum_by_push (λ (u : Tried). cond (int_eq u.store.result wanted) 1 0) agreed.trials t in
      let one = ap {B = ℕ} (λ (z : ℤ). cond (int_eq z wanted) 1 0) ends.result in
      record {
        trials = agreed.trials ++ t ∷ [];
        each = trials_push a.ready s agreed.trials a.words b.words c.words t agreed.each is;
        many = let long = length-append agreed.trials (t ∷ []) in omega (arith, agreed.many, long);
        agree = omega (arith, counted, one, count, agreed.agree);
        took = record {
          ready = took.ready ∙ agreed.took.ready;
          total = omega (arith, total, took.total, ends.steps, agreed.took.total);
          some = took.some;
        };
      }

  -- no more agree than there are trials
  pub few_agree : n ≤ done
  few_agree = let few = count_by-le-length (λ (u : Tried). int_eq u.store.result wanted) agreed.trials in omega (arith, few, agreed.agree, agreed.many)

  pub few_left : (most : ℕ) → a.left ≤ most → b.left ≤ most
  few_left most few = omega (arith, few, agreed.took.total)

  -- the next one takes too many steps
  pub trials_pass : (count : ℕ) (f : RunFault) → done < count
      → Exceeds (PassesLimit b.ready.linked.kernel b.ready.hardware (own b.ready.linked.kernel) s b.words b.left) f → Exceeds (TrialsPass a.ready count s a.words a.left) f
  trials_pass count f more e =
      exceeds_by _ _ f (λ passes.
      record {
        trials = agreed.trials;
        next = b.words;
        each = agreed.each;
        fewer = omega (arith, more, agreed.many);
        left = b.left;
        total = agreed.took.total;
        passes = subst (λ (x : Ready). PassesLimit x.linked.kernel x.hardware (own x.linked.kernel) s b.words b.left) agreed.took.ready passes;
      }) e

-- ---- samples

module _ (count : ℕ) (s : Store) (o : Outcome) (a b : Stage) (is : IsOutcome a.ready.linked s o) (took : Took o.steps a b) (same : b.words ≡ a.words) where
  pub sampled : (c : Stage) (n : ℕ) (end : SampleEnd) → Agreed b.ready count s o.store.result b c n → end ≡ record { result = o.store.result; steps = o.steps; agreeing = n }
      → Sampled a.ready count s a c o end
  sampled c n end agreed told =
      let each = subst (λ (x : Ready). AreTrials x s b.words agreed.trials c.words) took.ready agreed.each in
      record {
        sample = record { outcome = o; trials = agreed.trials };
        is = record { outcome = is; trials = subst (λ (g : Lcg). AreTrials a.ready s g agreed.trials c.words) same each; many = agreed.many };
        outcome_of = refl;
        told = told ∙ ap (λ m. record { result = o.store.result; steps = o.steps; agreeing = m }) agreed.agree;
        took = record { ready = agreed.took.ready ∙ took.ready; total = omega (arith, took.total, agreed.took.total); some = agreed.took.some };
      }

  pub trials_exceed : (f : RunFault) → Exceeds (TrialsPass b.ready count s b.words b.left) f → Exceeds (SamplePasses a.ready count s a.words a.left) f
  trials_exceed f e =
      exceeds_by _ _ f (λ passes.
      let here = subst (λ (x : Ready). TrialsPass x count s b.words b.left) took.ready passes in
      inr (o, b.left, is, took.total, subst (λ (g : Lcg). TrialsPass a.ready count s g b.left) same here)) e

pub run_exceeds : (r : Ready) (count : ℕ) (s : Store) (g : Lcg) (limit : ℕ) (f : RunFault) → Exceeds (ReachesLimit r.linked s limit) f → Exceeds (SamplePasses r count s g limit) f
run_exceeds r count s g limit f e = exceeds_by _ _ f inl e

-- one sample more
samples_push : (r : Ready) (count : ℕ) (ss : List Store) (xs : List Sample) (g h g' : Lcg) (s : Store) (x : Sample)
    → AreSamples r count ss g xs h → IsSample r count s h x g' → AreSamples r count (ss ++ s ∷ []) g (xs ++ x ∷ []) g'
samples_push r count [] [] g h g' s x same is = (g', subst (λ (y : Lcg). IsSample r count s y x g') same is, refl)
samples_push r count [] (y ∷ xs) g h g' s x each is = absurd each
samples_push r count (t ∷ ss) [] g h g' s x each is = absurd each
samples_push r count (t ∷ ss) (y ∷ xs) g h g' s x each is = (each.0, each.1, samples_push r count ss xs each.0 h g' s x each.2 is)

-- the first samples, and what is left of the steps
pub record Sampling (r : Ready) (trials : Trials) (front : List Store) (outcomes : List Outcome) (ends : List SampleEnd) (course : Stage) : Type 0 where
  pub ready : course.ready ≡ r
  pub samples : List Sample
  pub each : AreSamples r trials.count front (seeded trials.seed) samples course.words
  pub total : sum_by steps_of samples + course.left ≡ most_steps
  pub some : 0 < course.left
  pub outcomes_of : outcomes ≡ map (λ x. x.outcome) samples
  pub told : ends ≡ map end_of samples

pub no_sample : (r : Ready) (trials : Trials) (course : Stage) → course ≡ record { ready = r; left = most_steps; words = seeded trials.seed } → Sampling r trials [] [] [] course
no_sample r trials course is =
    let left = ap (λ (c : Stage). c.left) is in
    record {
      ready = ap (λ (c : Stage). c.ready) is;
      samples = [];
      each = ap (λ (c : Stage). c.words) is;
      total = omega (arith, left);
      some = omega (arith, left);
      outcomes_of = refl;
      told = refl;
    }

module _ (r : Ready) (trials : Trials) (starts : List Store) (i : ℕ) (d : Store) (outcomes : List Outcome) (ends : List SampleEnd) (b : Stage)
    (within : i < length starts) (sampling : Sampling r trials (take i starts) outcomes ends b) where
  pub sampling_more : (s : Store) (c : Stage) (o : Outcome) (end : SampleEnd) → s ≡ get_or starts i d → Sampled b.ready trials.count s b c o end
      → Sampling r trials (take (i + 1) starts) (outcomes ++ o ∷ []) (ends ++ end ∷ []) c
  sampling_more s c o end at x =
      let total = sum_by_push steps_of sampling.samples x.sample in
      let there = subst (λ (y : Ready). IsSample y trials.count s b.words x.sample c.words) sampling.ready x.is in
      let here : IsSample r trials.count (get_or starts i d) b.words x.sample c.words = subst (λ (t : Store). IsSample r trials.count t b.words x.sample c.words) at there in
      let each = samples_push r trials.count (take i starts) sampling.samples (seeded trials.seed) b.words c.words (get_or starts i d) x.sample sampling.each here in
      record {
        ready = x.took.ready ∙ sampling.ready;
        samples = sampling.samples ++ x.sample ∷ [];
        each = subst (λ (ss : List Store). AreSamples r trials.count ss (seeded trials.seed) (sampling.samples ++ x.sample ∷ []) c.words) (sym (take_more starts i d within)) each;
        total = omega (arith, total, sampling.total, x.took.total);
        some = x.took.some;
        outcomes_of = ap (λ os. os ++ o ∷ []) sampling.outcomes_of ∙ ap (λ p. map (λ (y : Sample). y.outcome) sampling.samples ++ p ∷ []) x.outcome_of
            ∙ sym (map-append (λ (y : Sample). y.outcome) sampling.samples (x.sample ∷ []));
        told = ap (λ es. es ++ end ∷ []) sampling.told ∙ ap (λ p. map end_of sampling.samples ++ p ∷ []) x.told ∙ sym (map-append end_of sampling.samples (x.sample ∷ []));
      }

  pub few_steps : b.left ≤ most_steps
  few_steps = omega (arith, sampling.total)

  pub runs_exceed : (s : Store) (f : RunFault) → s ≡ get_or starts i d → Exceeds (SamplePasses b.ready trials.count s b.words b.left) f → Exceeds (RunsPass r trials starts) f
  runs_exceed s f at e =
      exceeds_by _ _ f (λ passes.
      record {
        front = take i starts;
        start = get_or starts i d;
        rest = drop (i + 1) starts;
        in_order = ap (λ ys. take i starts ++ ys) (sym (drop_more starts i d within)) ∙ take-append-drop i starts;
        samples = sampling.samples;
        next = b.words;
        each = sampling.each;
        left = b.left;
        total = sampling.total;
        passes = subst (λ (t : Store). SamplePasses r trials.count t b.words b.left) at (subst (λ (y : Ready). SamplePasses y trials.count s b.words b.left) sampling.ready passes);
      }) e

pub simulates : (r : Ready) (trials : Trials) (starts : List Store) (outcomes : List Outcome) (ends : List SampleEnd) (c : Stage)
    → Sampling r trials starts outcomes ends c → Simulates r trials starts outcomes ends
simulates r trials starts outcomes ends c x = record {
  samples = x.samples;
  next = c.words;
  each = x.each;
  few = omega (arith, x.total, x.some);
  outcomes_of = x.outcomes_of;
  told = x.told;
}

-- ---- what is told

module _ (r : Ready) (trials : Trials) (starts : List Store) (outcomes : List Outcome) (ends : List SampleEnd) (s : Simulates r trials starts outcomes ends) where
  each_outcome : (ss : List Store) (xs : List Sample) (g h : Lcg) → AreSamples r trials.count ss g xs h → AllZip (IsOutcome r.linked) ss (map (λ x. x.outcome) xs)
  each_outcome [] [] g h each = tt
  each_outcome [] (x ∷ xs) g h each = absurd each
  each_outcome (t ∷ ss) [] g h each = absurd each
  each_outcome (t ∷ ss) (x ∷ xs) g h each = (each.1.outcome, each_outcome ss xs each.0 h each.2)

  pub outcomes_are : AllZip (IsOutcome r.linked) starts outcomes
  outcomes_are = subst (λ (os : List Outcome). AllZip (IsOutcome r.linked) starts os) (sym s.outcomes_of) (each_outcome starts s.samples (seeded trials.seed) s.next s.each)

  as_many : (ss : List Store) (xs : List Sample) (g h : Lcg) → AreSamples r trials.count ss g xs h → length xs ≡ length ss
  as_many [] [] g h each = refl
  as_many [] (x ∷ xs) g h each = absurd each
  as_many (t ∷ ss) [] g h each = absurd each
  as_many (t ∷ ss) (x ∷ xs) g h each = ap suc (as_many ss xs each.0 h each.2)

  length_map : {A B : Type 0} (f : A → B) (xs : List A) → length (map f xs) ≡ length xs
  length_map f [] = refl
  length_map f (x ∷ xs) = ap suc (length_map f xs)

  pub few_outcomes : (most : ℕ) → length starts ≤ most → length outcomes ≤ most
  few_outcomes most few =
      let long = ap length s.outcomes_of ∙ length_map (λ (x : Sample). x.outcome) s.samples ∙ as_many starts s.samples (seeded trials.seed) s.next s.each in
      omega (arith, long, few)

  pub few_ends : (most : ℕ) → length starts ≤ most → length ends ≤ most
  few_ends most few =
      let long = ap length s.told ∙ length_map end_of s.samples ∙ as_many starts s.samples (seeded trials.seed) s.next s.each in omega (arith, long, few)

  steps_within : (xs : List Sample) → sum_by (λ o. o.steps) (map (λ x. x.outcome) xs) ≤ sum_by steps_of xs
  steps_within [] = omega arith
  steps_within (x ∷ xs) =
      let here = sum_by-cons (λ (o : Outcome). o.steps) x.outcome (map (λ (y : Sample). y.outcome) xs) in
      let there = sum_by-cons steps_of x xs in
      let rest = steps_within xs in omega (arith, here, there, rest)

  pub outcome_steps : sum_by (λ o. o.steps) outcomes < most_steps
  outcome_steps =
      let all = steps_within s.samples in
      let same = ap (sum_by (λ (o : Outcome). o.steps)) s.outcomes_of in omega (arith, all, same, s.few)

  pub runs_tell : (energy : ℕ) (text : Bytes) → IsCost r.hardware r.linked (own r.linked.kernel) starts energy → text ≡ sample_lines trials.count 1 ends ++ energy_line energy
      → RunsTell r trials starts text
  runs_tell energy text cost is = record {
    samples = s.samples;
    left = s.next;
    energy = energy;
    each = s.each;
    few = s.few;
    cost = cost;
    text = is ∙ ap (λ es. sample_lines trials.count 1 es ++ energy_line energy) s.told;
  }

-- ---- calls

-- where no call bars them, a function that has trials calls nothing
pub unbarred : (trials : Trials) (k : Kernel) → barred_call trials k ≡ None → 0 < trials.count → k.calls ≡ []
unbarred trials k none some = by_count (trials.count == 0) refl none
  where
    by_calls : (o : List CallSite) → option_map (λ (site : CallSite). site.mark.from) (slice_get o 0) ≡ None → o ≡ []
    by_calls [] e = refl
    by_calls (site ∷ sites) e = absurd (cc)

    by_count : (b : Bool) → (trials.count == 0) ≡ b → (if b then None else option_map (λ (site : CallSite). site.mark.from) (slice_get k.calls 0)) ≡ None → k.calls ≡ []
    by_count true zero e = absurd (omega (arith, some, eqb-true trials.count 0 zero))
    by_count false zero e = by_calls k.calls e
