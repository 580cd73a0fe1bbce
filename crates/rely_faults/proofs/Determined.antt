-- A trial is determined by its start and its generator.
use Rattle.std.proofs.Common.{◌≡◌, ℕ, zero, suc, ◌+◌, ◌<◌, ◌≤◌, List, [], ◌∷◌, refl, sym, ap, subst, ◌∙◌, arith}
use Rattle.std.proofs.lemmas.List.Sums.{sum_by-cons}
use Rattle.rand_pcg.specs.Lcg.{Lcg}
use Rattle.rely_hard.specs.declared.hardware.Hardware.{Hardware}
use Rattle.rely_kernel.specs.declared.kernel.Kernel.{Kernel}
use Rattle.rely_kernel.specs.declared.label.Label.{Label}
use Rattle.rely_kernel.specs.declared.setting.Setting.{Setting}
use Rattle.rely_kernel.specs.declared.setting.Store.{Store}
use Rattle.rely_kernel.specs.Machine.{Config, Item, IsFinished, cost_of, moment_of}
use Rattle.rely_kernel.specs.Rates.{right_of}
use Rattle.rely_faults.specs.declared.outcome.Tried.{Tried}
use Rattle.rely_faults.specs.Laws.{EndsOrPasses, OneOutcome}
use Rattle.rely_faults.specs.Trial.{IsTried, PassesLimit, Trying, first, tried, tried_after, tried_by, tried_steps, tried_through}

module _ (p : Label → ℕ) (fs : List Kernel) where
  stopped_by : (is : List Item) (f : ℕ) (x : Trying) → is ≡ [] → tried_by p fs (moment_of f is) x ≡ x
  stopped_by is f x over = rw over refl

  -- a finished trial stays
  pub stopped : (x : Trying) → IsFinished x.config → tried p fs x ≡ x
  stopped x over = stopped_by x.config.items x.config.function x over

  stays : (n : ℕ) (x : Trying) → IsFinished x.config → tried_after p fs n x ≡ x
  unfolding tried_after
  stays zero x over = refl
  stays (suc n) x over = ap (tried_after p fs n) (stopped x over) ∙ stays n x over

  same_end : (m n : ℕ) (x : Trying) → IsFinished (tried_after p fs m x).config → IsFinished (tried_after p fs n x).config → tried_after p fs m x ≡ tried_after p fs n x
  unfolding tried_after
  same_end zero n x over also = sym (stays n x over)
  same_end (suc m) zero x over also = stays (suc m) x also
  same_end (suc m) (suc n) x over also = same_end m n (tried p fs x) over also

  -- ---- steps

  costless_by : (is : List Item) (f : ℕ) → is ≡ [] → cost_of fs f is ≡ 0
  costless_by is f over = rw over refl

  pub steps_each : (n : ℕ) (x : Trying) → tried_steps p fs (suc n) x ≡ cost_of fs x.config.function x.config.items + tried_steps p fs n (tried p fs x)
  unfolding tried_through
  steps_each n x = sum_by-cons (λ (c : Config). cost_of fs c.function c.items) x.config (tried_through p fs n (tried p fs x))

  no_steps : (n : ℕ) (x : Trying) → IsFinished x.config → tried_steps p fs n x ≡ 0
  unfolding tried_through
  no_steps zero x over = refl
  no_steps (suc n) x over =
      steps_each n x
      ∙ (ap (λ m. m + tried_steps p fs n (tried p fs x)) (costless_by x.config.items x.config.function over)
      ∙ (ap (λ y. 0 + tried_steps p fs n y) (stopped x over) ∙ (let h = no_steps n x over in omega (arith, h))))

  -- no part of a trial takes more steps than it takes to its end
  pub steps_within : (m n : ℕ) (x : Trying) → IsFinished (tried_after p fs n x).config → tried_steps p fs m x ≤ tried_steps p fs n x
  unfolding tried_through tried_after
  steps_within zero n x over = omega arith
  steps_within (suc m) zero x over = let h = no_steps (suc m) x over in omega (arith, h)
  steps_within (suc m) (suc n) x over =
      let a = steps_each m x in
      let b = steps_each n x in
      let h = steps_within m n (tried p fs x) over in
      omega (arith, a, b, h)

  same_steps : (m n : ℕ) (x : Trying) → IsFinished (tried_after p fs m x).config → IsFinished (tried_after p fs n x).config → tried_steps p fs m x ≡ tried_steps p fs n x
  same_steps m n x over also = let a = steps_within m n x also in let b = steps_within n m x over in omega (arith, a, b)

pub same_fields : (o p : Tried) → o.store ≡ p.store → o.steps ≡ p.steps → o.words ≡ p.words → o ≡ p
same_fields o p store steps words =
    ap (λ (s : Store). record { store = s; steps = o.steps; words = o.words }) store
    ∙ (ap (λ n. record { store = p.store; steps = n; words = o.words }) steps ∙ ap (λ n. record { store = p.store; steps = p.steps; words = n }) words)

module _ (k : Kernel) (h : Hardware) (t : Setting) (start : Store) (words : Lcg) where
  abbrev rate : Label → ℕ
  rate = right_of h k t

  abbrev at_first : Trying
  at_first = first k start words

  finished : (o : Tried) (left : Lcg) (j : IsTried k h t start words o left) → IsFinished (tried_after rate (k ∷ []) j.n at_first).config
  finished o left j = subst (λ (x : Trying). IsFinished x.config) (sym j.leads) j.over

  abbrev ended : Config → Lcg → ℕ → Trying
  ended c g n = record { config = c; words = g; taken = n }

  module _ (o o' : Tried) (left left' : Lcg) (a : IsTried k h t start words o left) (b : IsTried k h t start words o' left') where
    ends : ended a.end left o.words ≡ ended b.end left' o'.words
    ends = sym a.leads ∙ (same_end rate (k ∷ []) a.n b.n at_first (finished o left a) (finished o' left' b) ∙ b.leads)

    agree : (o ≡ o') × (left ≡ left')
    agree = (
      same_fields o o'
          (a.store ∙ (ap (λ (x : Trying). x.config.store) ends ∙ sym b.store))
          (a.steps ∙ (same_steps rate (k ∷ []) a.n b.n at_first (finished o left a) (finished o' left' b) ∙ sym b.steps))
          (ap (λ (x : Trying). x.taken) ends),
      ap (λ (x : Trying). x.words) ends,
    )

  below : (o : Tried) (left : Lcg) (limit : ℕ) → IsTried k h t start words o left → o.steps < limit → PassesLimit k h t start words limit → ⊥
  below o left limit a few many =
      let within = steps_within rate (k ∷ []) many.n a.n at_first (finished o left a) in
      let steps = a.steps in
      let passed = many.steps in
      absurd (omega (arith, within, steps, few, passed))

pub one_outcome : OneOutcome
one_outcome k h t start words left left' o o' a b = agree k h t start words o o' left left' a b

pub ends_or_passes : EndsOrPasses
ends_or_passes k h t start words left o limit a few many = below k h t start words o left limit a few many
