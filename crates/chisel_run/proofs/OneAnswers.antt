-- What is asked has one answer: reliable runs are determined by their starts, and trials by theirs and by the generator.
use Rattle.std.proofs.Common.{◌≡◌, ℕ, ◌+◌, ◌<◌, ◌≤◌, Bool, true, false, nat_lt, List, [], ◌∷◌, ◌++◌, length, map, sum_by, refl, sym, ap, subst, ◌∙◌, arith, inl, inr}
use Rattle.std.proofs.lemmas.Bool.{ltb-true, ltb-false}
use Rattle.std.proofs.lemmas.List.Sums.{sum_by-cons}
use Rattle.rand_pcg.specs.Lcg.{Lcg}
use Rattle.rely_num.specs.Texts.{Bytes}
use Rattle.rely_kernel.specs.declared.setting.Store.{Store}
use Rattle.rely_kernel.specs.Rates.{own}
use Rattle.rely_machine.specs.declared.outcome.Outcome.{Outcome}
use Rattle.rely_machine.proofs.Determined.{one_cost, one_outcome, reaches_by_outcome}
use Rattle.rely_faults.specs.declared.outcome.Tried.{Tried}
use Rattle.rely_faults.specs.Trial.{PassesLimit}
use Rattle.rely_faults.proofs.Determined.{ends_or_passes, one_outcome as one_tried}
use Rattle.chisel_lines.specs.Faults.{Both}
use Rattle.chisel_lines.specs.SampleLines.{energy_line, sample_lines}
use Rattle.chisel_lines.specs.declared.status.Status.{Status}
use Rattle.chisel_lines.specs.declared.status.Status.TheVariants as status
use Rattle.chisel_source.specs.declared.ready.Ready.{Ready}
use Rattle.chisel_options.specs.declared.trials.Trials.{Trials}
use Rattle.chisel_run.specs.Answer.{IsAnswer, OneAnswer, asked, steps_line}
use Rattle.chisel_run.specs.Simulations.{AreSamples, AreTrials, IsSample, IsTrial, RunsPass, RunsTell, Sample, SamplePasses, end_of, seeded, steps_of}

-- ---- runs

module _ (r : Ready) (s : Store) where
  one_trial : (g m n : Lcg) (t u : Tried) → IsTrial r s g t m → IsTrial r s g u n → (t ≡ u) × (m ≡ n)
  one_trial g m n t u x y = one_tried r.linked.kernel r.hardware (own r.linked.kernel) s g m n t u x y

  one_trials : (ts us : List Tried) (g h k : Lcg) → AreTrials r s g ts h → AreTrials r s g us k → length ts ≡ length us → (ts ≡ us) × (h ≡ k)
  one_trials [] [] g h k x y e = (refl, x ∙ sym y)
  one_trials [] (u ∷ us) g h k x y e = absurd (cc)
  one_trials (t ∷ ts) [] g h k x y e = absurd (cc)
  one_trials (t ∷ ts) (u ∷ us) g h k x y e =
      let first = one_trial g x.0 y.0 t u x.1 y.1 in
      let rest = one_trials ts us x.0 h k x.2 (subst (λ (m : Lcg). AreTrials r s m us k) (sym first.1) y.2) (omega (arith, e)) in
      (ap (λ v. v ∷ ts) first.0 ∙ ap (λ vs. u ∷ vs) rest.0, rest.1)

  -- a trial that passes a limit takes it
  passed_within : (g m : Lcg) (t : Tried) (limit : ℕ) → IsTrial r s g t m → PassesLimit r.linked.kernel r.hardware (own r.linked.kernel) s g limit → limit ≤ t.steps
  passed_within g m t limit is passes = by_test (nat_lt t.steps limit) refl
    where
      by_test : (b : Bool) → nat_lt t.steps limit ≡ b → limit ≤ t.steps
      by_test true e = absurd (ends_or_passes r.linked.kernel r.hardware (own r.linked.kernel) s g m t limit is (ltb-true t.steps limit e) passes)
      by_test false e = ltb-false t.steps limit e

  -- trials that together with one more pass a limit are among as many that take it
  trials_beyond : (ts us : List Tried) (g h k : Lcg) (left : ℕ) → AreTrials r s g ts h → AreTrials r s g us k → length us < length ts
      → PassesLimit r.linked.kernel r.hardware (own r.linked.kernel) s k left → sum_by (λ t. t.steps) us + left ≤ sum_by (λ t. t.steps) ts
  trials_beyond [] us g h k left x y e passes = absurd (omega (arith, e))
  trials_beyond (t ∷ ts) [] g h k left x y e passes =
      let all = sum_by-cons (λ (v : Tried). v.steps) t ts in
      let one : left ≤ t.steps =
      passed_within g x.0 t left x.1 (subst (λ (m : Lcg). PassesLimit r.linked.kernel r.hardware (own r.linked.kernel) s m left) y passes) in
      omega (arith, all, one)
  trials_beyond (t ∷ ts) (u ∷ us) g h k left x y e passes =
      let first = one_trial g x.0 y.0 t u x.1 y.1 in
      let rest = trials_beyond ts us x.0 h k left x.2 (subst (λ (m : Lcg). AreTrials r s m us k) (sym first.1) y.2) (omega (arith, e)) passes in
      let all = sum_by-cons (λ (v : Tried). v.steps) t ts in
      let some = sum_by-cons (λ (v : Tried). v.steps) u us in
      let same = ap (λ (v : Tried). v.steps) first.0 in
      omega (arith, all, some, same, rest)

module _ (r : Ready) (count : ℕ) where
  one_sample : (s : Store) (g h k : Lcg) (x y : Sample) → IsSample r count s g x h → IsSample r count s g y k → (x ≡ y) × (h ≡ k)
  one_sample s g h k x y a b =
      let run = one_outcome r.linked s x.outcome y.outcome a.outcome b.outcome in
      let rest = one_trials r s x.trials y.trials g h k a.trials b.trials (a.many ∙ sym b.many) in
      (ap (λ o. record { outcome = o; trials = x.trials }) run ∙ ap (λ ts. record { outcome = y.outcome; trials = ts }) rest.0, rest.1)

  one_samples : (ss : List Store) (xs ys : List Sample) (g h k : Lcg) → AreSamples r count ss g xs h → AreSamples r count ss g ys k → xs ≡ ys
  one_samples [] [] [] g h k a b = refl
  one_samples [] [] (y ∷ ys) g h k a b = absurd b
  one_samples [] (x ∷ xs) ys g h k a b = absurd a
  one_samples (s ∷ ss) [] ys g h k a b = absurd a
  one_samples (s ∷ ss) (x ∷ xs) [] g h k a b = absurd b
  one_samples (s ∷ ss) (x ∷ xs) (y ∷ ys) g h k a b =
      let first = one_sample s g a.0 b.0 x y a.1 b.1 in
      let rest = one_samples ss xs ys a.0 h k a.2 (subst (λ (m : Lcg). AreSamples r count ss m ys k) (sym first.1) b.2) in
      ap (λ z. z ∷ xs) first.0 ∙ ap (λ zs. y ∷ zs) rest

  -- a sample that passes a limit takes it
  sample_beyond : (s : Store) (g h : Lcg) (x : Sample) (limit : ℕ) → IsSample r count s g x h → SamplePasses r count s g limit → limit ≤ steps_of x
  sample_beyond s g h x limit a (inl reached) =
      let run = (reaches_by_outcome r.linked s x.outcome limit a.outcome).0 reached in omega (arith, run)
  sample_beyond s g h x limit a (inr (o, left, is, total, passes)) =
      let run = ap (λ (p : Outcome). p.steps) (one_outcome r.linked s x.outcome o a.outcome is) in
      let beyond = trials_beyond r s x.trials passes.trials g h passes.next passes.left a.trials passes.each (let many = a.many in omega (arith, many, passes.fewer)) passes.passes in
      omega (arith, run, beyond, total, passes.total)

  -- and so do all samples, where those up to one pass it
  samples_beyond : (front : List Store) (s : Store) (rest : List Store) (xs ys : List Sample) (g h k : Lcg) (left : ℕ)
      → AreSamples r count (front ++ s ∷ rest) g xs h → AreSamples r count front g ys k → SamplePasses r count s k left → sum_by steps_of ys + left ≤ sum_by steps_of xs
  samples_beyond [] s rest [] ys g h k left a b passes = absurd a
  samples_beyond [] s rest (x ∷ xs) [] g h k left a b passes =
      let all = sum_by-cons steps_of x xs in
      let one = sample_beyond s g a.0 x left a.1 (subst (λ (m : Lcg). SamplePasses r count s m left) b passes) in
      omega (arith, all, one)
  samples_beyond [] s rest (x ∷ xs) (y ∷ ys) g h k left a b passes = absurd b
  samples_beyond (f ∷ front) s rest [] ys g h k left a b passes = absurd a
  samples_beyond (f ∷ front) s rest (x ∷ xs) [] g h k left a b passes = absurd b
  samples_beyond (f ∷ front) s rest (x ∷ xs) (y ∷ ys) g h k left a b passes =
      let one = one_sample f g a.0 b.0 x y a.1 b.1 in
      let more = samples_beyond front s rest xs ys a.0 h k left a.2 (subst (λ (m : Lcg). AreSamples r count front m ys k) (sym one.1) b.2) passes in
      let all = sum_by-cons steps_of x xs in
      let some = sum_by-cons steps_of y ys in
      let same = ap steps_of one.0 in
      omega (arith, all, some, same, more)

-- ---- answers

both_same : (text text' wanted : Bytes) (s s' status : Status) → Both text s wanted status → Both text' s' wanted status → Both text s text' s'
both_same text text' wanted s s' status a b = (a.0 ∙ sym b.0, a.1 ∙ sym b.1)

module _ (r : Ready) (trials : Trials) (starts : List Store) where
  told_same : (text text' : Bytes) → RunsTell r trials starts text → RunsTell r trials starts text' → text ≡ text'
  told_same text text' x y =
      x.text ∙ ap (λ xs. sample_lines trials.count 1 (map end_of xs) ++ energy_line x.energy) (one_samples r trials.count starts x.samples y.samples (seeded trials.seed) x.left y.left x.each y.each)
      ∙ ap (λ n. sample_lines trials.count 1 (map end_of y.samples) ++ energy_line n) (one_cost r.hardware r.linked (own r.linked.kernel) starts x.energy y.energy x.cost y.cost) ∙ sym y.text

  never_both : (text : Bytes) → RunsTell r trials starts text → RunsPass r trials starts → ⊥
  never_both text x y =
      let each : AreSamples r trials.count (y.front ++ y.start ∷ y.rest) (seeded trials.seed) x.samples x.left =
      subst (λ (ss : List Store). AreSamples r trials.count ss (seeded trials.seed) x.samples x.left) (sym y.in_order) x.each in
      let beyond = samples_beyond r trials.count y.front y.start y.rest x.samples y.samples (seeded trials.seed) x.left y.next y.left each y.each y.passes in
      omega (arith, beyond, x.few, y.total)

  running_same : (text text' : Bytes) (s s' : Status) → IsAnswer (asked r trials starts) text s → IsAnswer (asked r trials starts) text' s' → Both text s text' s'
  running_same text text' s s' (inl x) (inl y) = (told_same text text' x.0 y.0, x.1 ∙ sym y.1)
  running_same text text' s s' (inl x) (inr y) = absurd (never_both text x.0 y.0)
  running_same text text' s s' (inr x) (inl y) = absurd (never_both text' y.0 x.0)
  running_same text text' s s' (inr x) (inr y) = both_same text text' steps_line s s' status.Limit x.1 y.1

pub one_answer : OneAnswer
one_answer i text text' s s' a b = running_same i.ready i.trials i.starts text text' s s' a b
