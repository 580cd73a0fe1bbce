-- What holds of every trial.
use Rattle.std.specs.Prelude.{◌≡◌, ◌↔◌, ℕ, ◌+◌, ◌<◌, ◌≤◌, ◌⊎◌, List, [], ◌∷◌, ◌++◌, length}
use Rattle.rand_pcg.specs.Lcg.{Lcg, advance}
use Rattle.rand_pcg.specs.Pcg.{multiplier_128}
use Rattle.rely_hard.specs.declared.hardware.Hardware.{Hardware}
use Rattle.rely_kernel.specs.declared.kernel.Kernel.{Kernel}
use Rattle.rely_kernel.specs.declared.setting.Setting.{Setting}
use Rattle.rely_kernel.specs.declared.setting.Store.{Store}
use Rattle.rely_kernel.specs.Bound.{IsStart}
use Rattle.rely_kernel.specs.Machine.{Config, right}
use Rattle.rely_kernel.specs.Valid.{IsValid}
use Rattle.rely_kernel.specs.Wrong.{IsWrong}
use Rattle.rely_faults.specs.declared.outcome.Tried.{Tried}
use Rattle.rely_faults.specs.Listed.{IsListed, words_of}
use Rattle.rely_faults.specs.Trial.{IsTried, PassesLimit, Trying, first, trial_after}

-- d follows c by the right step, or by a wrong one
abbrev pub Follows : Kernel → Config → Config → Type 0
Follows k c d = (d ≡ right (k ∷ []) c) ⊎ IsWrong (k ∷ []) c d

-- where a trial stands after n steps
abbrev pub tries : Kernel → Hardware → Setting → Store → Lcg → ℕ → Trying
tries k h t start words n = trial_after k h t n (first k start words)

-- each step from a start is right or wrong as the machine has it
abbrev pub EachStepFollows : Type 0
EachStepFollows =
    (k : Kernel) (h : Hardware) (t : Setting) (start : Store) (words : Lcg) (n : ℕ) → IsValid k → k.calls ≡ [] → IsStart k start
    → Follows k (tries k h t start words n).config (tries k h t start words (n + 1)).config

-- at each moment the words that were taken are the generator's next ones, and it stands behind them
abbrev pub WordsAreTaken : Type 0
WordsAreTaken =
    (k : Kernel) (h : Hardware) (t : Setting) (start : Store) (words : Lcg) (n : ℕ)
    → (tries k h t start words n).words ≡ advance 128 multiplier_128 (tries k h t start words n).taken words

-- each trial of a kernel that calls nothing ends, whatever its words
abbrev pub HasOutcome : Type 0
HasOutcome =
    (k : Kernel) (h : Hardware) (t : Setting) (start : Store) (words : Lcg) → k.calls ≡ []
    → (o : Tried) × (left : Lcg) × IsTried k h t start words o left

-- a trial has one outcome, and leaves one generator
abbrev pub OneOutcome : Type 0
OneOutcome =
    (k : Kernel) (h : Hardware) (t : Setting) (start : Store) (words left left' : Lcg) (o o' : Tried)
    → IsTried k h t start words o left → IsTried k h t start words o' left' → (o ≡ o') × (left ≡ left')

-- one that ends below a limit never passes it
abbrev pub EndsOrPasses : Type 0
EndsOrPasses =
    (k : Kernel) (h : Hardware) (t : Setting) (start : Store) (words left : Lcg) (o : Tried) (limit : ℕ)
    → IsTried k h t start words o left → o.steps < limit → PassesLimit k h t start words limit → ⊥

-- ---- over a list of words

-- a trial by a generator is the one over its next words, as many as it takes, and leaves it behind them
abbrev pub WordsAreGenerated : Type 0
WordsAreGenerated =
    (k : Kernel) (h : Hardware) (t : Setting) (start : Store) (words left : Lcg) (o : Tried)
    → (IsTried k h t start words o left
    ↔ (IsListed k h t start (words_of o.words words) o [] × (left ≡ advance 128 multiplier_128 o.words words)))

-- words behind those that a trial takes change nothing, and are left
abbrev pub MoreWordsAreLeft : Type 0
MoreWordsAreLeft =
    (k : Kernel) (h : Hardware) (t : Setting) (start : Store) (words left more : List ℕ) (o : Tried)
    → IsListed k h t start words o left → IsListed k h t start (words ++ more) o (left ++ more)

-- a list of words has one outcome
abbrev pub OneTrial : Type 0
OneTrial =
    (k : Kernel) (h : Hardware) (t : Setting) (start : Store) (words left left' : List ℕ) (o o' : Tried)
    → IsListed k h t start words o left → IsListed k h t start words o' left' → (o ≡ o') × (left ≡ left')

-- enough words have one: so many that no choice of setting, start or words takes more
abbrev pub EnoughWordsEnd : Type 0
EnoughWordsEnd =
    (k : Kernel) → k.calls ≡ []
    → (enough : ℕ) × ((h : Hardware) (t : Setting) (start : Store) (words : List ℕ) → enough ≤ length words
    → (o : Tried) × (left : List ℕ) × IsListed k h t start words o left)
