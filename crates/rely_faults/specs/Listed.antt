-- A trial over a list of words, whatever made them.
use Rattle.std.specs.Prelude.{◌≡◌, ℕ, zero, suc, ◌+◌, ◌%◌, ℤ, List, [], ◌∷◌, length, Option, Some, None, option_and_then, option_map, nat_lt, ◌==◌, if◌then◌else◌}
use Rattle.std.specs.Int.{w64, cast_signed}
use Rattle.rand_pcg.specs.Lcg.{Lcg}
use Rattle.rand_pcg.specs.Pcg.{pcg64}
use Rattle.rely_num.specs.Bounds.{S}
use Rattle.rely_hard.specs.declared.hardware.Hardware.{Hardware}
use Rattle.rely_kernel.specs.declared.kernel.Kernel.{Kernel}
use Rattle.rely_kernel.specs.declared.label.Label.{Label}
use Rattle.rely_kernel.specs.declared.setting.Setting.{Setting}
use Rattle.rely_kernel.specs.declared.setting.Store.{Store}
use Rattle.rely_kernel.specs.Machine.{Config, IsFinished, Moment, Over, Exact, Chance, begin, cost_of, moment}
use Rattle.rely_kernel.specs.Rates.{right_of}
use Rattle.rely_faults.specs.declared.outcome.Tried.{Tried}
use Rattle.rely_faults.specs.Trial.{successor}

-- ---- what a chance step makes of the words

-- the number that a wrong step leaves, none where the step is right, and the words that are left
pub record Chanced : Type 0 where
  pub wrong : Option ℤ
  pub left : List ℕ

abbrev pub comes_right : List ℕ → Option Chanced
comes_right words = Some (record { wrong = None; left = words })

-- with the next word as a signed number
abbrev pub comes_wrong : List ℕ → Option Chanced
comes_wrong [] = None
comes_wrong (number ∷ words) = Some (record { wrong = Some (cast_signed w64 number); left = words })

-- right where the next word modulo S is below p
abbrev pub by_word : ℕ → List ℕ → Option Chanced
by_word p [] = None
by_word p (word ∷ words) = (if nat_lt (word % S) p then comes_right else comes_wrong) words

-- at the reliability p, where S takes no word; none where the words don't suffice
abbrev pub chanced : ℕ → List ℕ → Option Chanced
chanced p words = (if p == S then comes_right else by_word p) words

-- ---- steps

-- a run that is tried, the words that are left, and the steps that were counted
pub record Listed : Type 0 where
  pub config : Config
  pub words : List ℕ
  pub steps : ℕ

abbrev pub goes_on : List Kernel → Listed → Option ℤ → List ℕ → Listed
goes_on fs x wrong words = record {
  config = successor fs wrong x.config;
  words = words;
  steps = x.steps + cost_of fs x.config.function x.config.items;
}

abbrev pub listed_by : (Label → ℕ) → List Kernel → Moment → Listed → Option Listed
listed_by p fs Over x = Some x
listed_by p fs Exact x = Some (goes_on fs x None x.words)
listed_by p fs (Chance f l) x = option_map (λ d. goes_on fs x d.wrong d.left) (chanced (p l) x.words)

-- one step at the reliabilities p, none where words are wanting; a finished run stays
abbrev pub listed : (Label → ℕ) → List Kernel → Listed → Option Listed
listed p fs x = listed_by p fs (moment x.config) x

-- after n steps
unfoldable pub listed_after : (Label → ℕ) → List Kernel → ℕ → Listed → Option Listed
listed_after p fs zero x = Some x
listed_after p fs (suc n) x = option_and_then (listed_after p fs n) (listed p fs x)

-- ---- trials of a kernel by itself, which calls nothing

abbrev pub listed_first : Kernel → Store → List ℕ → Listed
listed_first k start words = record { config = begin k 0 start; words = words; steps = 0 }

-- the outcome of the whole trial over the words, of which those are left
pub record IsListed (k : Kernel) (h : Hardware) (t : Setting) (start : Store) (words : List ℕ) (o : Tried) (left : List ℕ) : Type 0 where
  pub n : ℕ
  pub end : Config
  pub leads : listed_after (right_of h k t) (k ∷ []) n (listed_first k start words) ≡ Some (record { config = end; words = left; steps = o.steps })
  pub over : IsFinished end
  pub store : o.store ≡ end.store
  pub taken : length words ≡ o.words + length left

-- ---- the words of a generator

-- its next n words
unfoldable pub words_of : ℕ → Lcg → List ℕ
words_of zero g = []
words_of (suc n) g = (pcg64 g).0 ∷ words_of n (pcg64 g).1
