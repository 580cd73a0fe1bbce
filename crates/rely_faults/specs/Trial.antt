-- A trial: a run whose chance steps are right or wrong by the words of a generator.
use Rattle.std.specs.Prelude.{◌≡◌, ℕ, zero, suc, ◌+◌, ◌%◌, ◌<◌, ◌≤◌, ℤ, List, [], ◌∷◌, drop, sum_by, Option, Some, None, nat_lt, ◌==◌, if◌then◌else◌}
use Rattle.std.specs.Int.{w64, cast_signed}
use Rattle.rand_pcg.specs.Lcg.{Lcg}
use Rattle.rand_pcg.specs.Pcg.{pcg64}
use Rattle.rely_num.specs.Bounds.{S}
use Rattle.rely_hard.specs.declared.hardware.Hardware.{Hardware}
use Rattle.rely_kernel.specs.declared.kernel.Kernel.{Kernel}
use Rattle.rely_kernel.specs.declared.label.Label.{Label}
use Rattle.rely_kernel.specs.declared.setting.Setting.{Setting}
use Rattle.rely_kernel.specs.declared.setting.Store.{Store}
use Rattle.rely_kernel.specs.Machine.{Item, Read, Elem, Op, Write, WriteElem, Config, IsFinished, Moment, Over, Exact, Chance, begin, cell, cost_of, moment, right, top, with_cell}
use Rattle.rely_kernel.specs.Meaning.{written_at}
use Rattle.rely_kernel.specs.Rates.{right_of}
use Rattle.rely_faults.specs.declared.outcome.Tried.{Tried}

-- ---- what a chance step draws

-- the number that a wrong step leaves, none where the step is right; the generator after it; how many words it took
pub record Draw : Type 0 where
  pub wrong : Option ℤ
  pub words : Lcg
  pub taken : ℕ

-- right without a word
abbrev pub no_word : Lcg → Draw
no_word g = record { wrong = None; words = g; taken = 0 }

-- right by a word
abbrev pub one_word : Lcg → Draw
one_word g = record { wrong = None; words = (pcg64 g).1; taken = 1 }

-- wrong by a word, and the next word as a signed number
abbrev pub two_words : Lcg → Draw
two_words g =
    let number = pcg64 (pcg64 g).1 in record { wrong = Some (cast_signed w64 number.0); words = number.1; taken = 2 }

-- at the reliability p: always right at S, else where the word modulo S is below p
unfoldable pub draw : ℕ → Lcg → Draw
draw p g = (if p == S then no_word else if nat_lt ((pcg64 g).0 % S) p then one_word else two_words) g

-- ---- steps

-- a run that is tried, the generator, and how many words were taken from it
pub record Trying : Type 0 where
  pub config : Config
  pub words : Lcg
  pub taken : ℕ

-- d, the right successor of c, with z for what the first item leaves; a wrong write of an element leaves the others
abbrev pub wrong_by : List Item → ℤ → Config → Config → Config
wrong_by (Read v ∷ _) z c d = record d { stack = z ∷ drop 1 d.stack }
wrong_by (Elem a ∷ _) z c d = record d { stack = z ∷ drop 1 d.stack }
wrong_by (Op site ∷ _) z c d = record d { stack = z ∷ drop 1 d.stack }
wrong_by (Write v ∷ _) z c d = record d { store = with_cell c.store v (z ∷ []) }
wrong_by (WriteElem a ∷ _) z c d =
    record d { store = with_cell c.store a (written_at (cell c.store a) (top (drop 1 c.stack)) z) }
wrong_by _ z c d = d

-- the wrong successor that leaves the number z
abbrev pub wrong : List Kernel → ℤ → Config → Config
wrong fs z c = wrong_by c.items z c (right fs c)

abbrev pub successor : List Kernel → Option ℤ → Config → Config
successor fs None c = right fs c
successor fs (Some z) c = wrong fs z c

abbrev pub with_draw : List Kernel → Draw → Trying → Trying
with_draw fs d x = record { config = successor fs d.wrong x.config; words = d.words; taken = x.taken + d.taken }

abbrev pub tried_by : (Label → ℕ) → List Kernel → Moment → Trying → Trying
tried_by p fs Over x = x
tried_by p fs Exact x = record x { config = right fs x.config }
tried_by p fs (Chance f l) x = with_draw fs (draw (p l) x.words) x

-- one step, at the reliabilities p; a finished run stays
abbrev pub tried : (Label → ℕ) → List Kernel → Trying → Trying
tried p fs x = tried_by p fs (moment x.config) x

-- after n steps
unfoldable pub tried_after : (Label → ℕ) → List Kernel → ℕ → Trying → Trying
tried_after p fs zero x = x
tried_after p fs (suc n) x = tried_after p fs n (tried p fs x)

-- the configurations before each of the first n steps
unfoldable pub tried_through : (Label → ℕ) → List Kernel → ℕ → Trying → List Config
tried_through p fs zero x = []
tried_through p fs (suc n) x = x.config ∷ tried_through p fs n (tried p fs x)

-- what the first n steps count
abbrev pub tried_steps : (Label → ℕ) → List Kernel → ℕ → Trying → ℕ
tried_steps p fs n x = sum_by (λ c. cost_of fs c.function c.items) (tried_through p fs n x)

-- ---- trials of a kernel by itself, which calls nothing

-- where a trial starts
abbrev pub first : Kernel → Store → Lcg → Trying
first k start words = record { config = begin k 0 start; words = words; taken = 0 }

abbrev pub trial_after : Kernel → Hardware → Setting → ℕ → Trying → Trying
trial_after k h t n x = tried_after (right_of h k t) (k ∷ []) n x

abbrev pub trial_steps : Kernel → Hardware → Setting → ℕ → Trying → ℕ
trial_steps k h t n x = tried_steps (right_of h k t) (k ∷ []) n x

-- the outcome of the whole trial, and the generator that it leaves
pub record IsTried (k : Kernel) (h : Hardware) (t : Setting) (start : Store) (words : Lcg) (o : Tried) (left : Lcg) : Type 0 where
  pub n : ℕ
  pub end : Config
  pub leads : trial_after k h t n (first k start words) ≡ record { config = end; words = left; taken = o.words }
  pub over : IsFinished end
  pub store : o.store ≡ end.store
  pub steps : o.steps ≡ trial_steps k h t n (first k start words)

-- the trial takes limit steps or more
pub record PassesLimit (k : Kernel) (h : Hardware) (t : Setting) (start : Store) (words : Lcg) (limit : ℕ) : Type 0 where
  pub n : ℕ
  pub steps : limit ≤ trial_steps k h t n (first k start words)

-- the first n steps count less than the limit, but one more would not, and the generator is left so before it
pub record StopsAt (k : Kernel) (h : Hardware) (t : Setting) (start : Store) (words : Lcg) (limit : ℕ) (left : Lcg) : Type 0 where
  pub n : ℕ
  pub words_left : (trial_after k h t n (first k start words)).words ≡ left
  pub before : 0 < n → trial_steps k h t n (first k start words) < limit
  pub reached : limit ≤ trial_steps k h t (suc n) (first k start words)

-- some steps of the trial leave the generator so
pub record LeavesWords (k : Kernel) (h : Hardware) (t : Setting) (start : Store) (words left : Lcg) : Type 0 where
  pub n : ℕ
  pub words_left : (trial_after k h t n (first k start words)).words ≡ left
