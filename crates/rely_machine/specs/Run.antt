-- The reliable run of a linked function: its end, and what is counted on the way.
use Rattle.std.specs.Prelude.{ℕ, ◌≡◌, ◌≤◌, ◌==◌, ◌&&◌, Bool, false, List, [], ◌∷◌, map, length, slice_get, count_by, All, Option, None}
use Rattle.std.specs.List.{AllZip, range_with_len}
use Rattle.std.specs.Option.{option_map_or}
use Rattle.rely_kernel.specs.declared.kernel.Kernel.{Kernel}
use Rattle.rely_kernel.specs.declared.kernel.Linked.{Linked}
use Rattle.rely_kernel.specs.declared.label.Label.{Label}
use Rattle.rely_kernel.specs.declared.setting.Store.{Store}
use Rattle.rely_kernel.specs.Bound.{IsStart}
use Rattle.rely_kernel.specs.Labels.{number, labels_of}
use Rattle.rely_kernel.specs.Machine.{Config, Item, Call, functions, main, callee, begin, after, passed, trace, steps, IsFinished}
use Rattle.rely_machine.specs.declared.outcome.Outcome.{Outcome}

-- where the run starts
abbrev pub first : Linked → Store → Config
first l start = begin l.kernel (main l) start

-- n right steps from the start lead to the end
pub record IsRun (l : Linked) (start : Store) (n : ℕ) (end : Config) : Type 0 where
  pub leads : after (functions l) n (first l start) ≡ end
  pub over : IsFinished end

-- ---- uses

-- how often the label with that number was taken in the function with number f
abbrev pub taken : Kernel → ℕ → List (ℕ × Label) → ℕ → ℕ
taken k f trace i = count_by (λ m. m.0 == f && number k m.1 == i) trace

-- of all its labels, in the order of their numbers
abbrev pub uses : Kernel → ℕ → List (ℕ × Label) → List ℕ
uses k f trace = map (taken k f trace) (range_with_len 0 (labels_of k))

abbrev pub uses_at : List Kernel → List (ℕ × Label) → ℕ → List ℕ
uses_at fs trace f = option_map_or (λ k. uses k f trace) (slice_get fs f) []

-- ---- entries

-- the function that the next item calls
abbrev pub called : List Kernel → ℕ → List Item → Option ℕ
called fs f (Call place ∷ _) = callee fs f place
called fs f _ = None

abbrev pub calls : List Kernel → ℕ → Config → Bool
calls fs g c = option_map_or (λ h. h == g) (called fs c.function c.items) false

-- how often the function with number g was entered
abbrev pub entered : List Kernel → List Config → ℕ → ℕ
entered fs passed g = count_by (calls fs g) passed

-- ---- outcomes

-- the end of the run, how often it took each label of the function and of each that it reaches, how often it entered
-- these, and its steps
pub record IsOutcome (l : Linked) (start : Store) (o : Outcome) : Type 0 where
  pub n : ℕ
  pub end : Config
  pub run : IsRun l start n end
  pub store : o.store ≡ end.store
  pub uses : o.uses ≡ uses l.kernel (main l) (trace (functions l) n (first l start))
  pub inner : o.inner ≡ map (uses_at (functions l) (trace (functions l) n (first l start))) (range_with_len 0 (length l.inner))
  pub entries : o.entries ≡ map (entered (functions l) (passed (functions l) n (first l start))) (range_with_len 0 (length l.inner))
  pub steps : o.steps ≡ steps (functions l) n (first l start)

-- the run takes limit steps or more
pub record ReachesLimit (l : Linked) (start : Store) (limit : ℕ) : Type 0 where
  pub n : ℕ
  pub end : Config
  pub run : IsRun l start n end
  pub steps : limit ≤ steps (functions l) n (first l start)

-- ---- some runs

-- so many runs at most are made at once
abbrev pub most_runs : ℕ
most_runs = 64

-- and they stay together below so many steps
abbrev pub steps_limit : ℕ
steps_limit = 67108864

-- outcomes of the function: those of the reliable runs from some of its starts
pub record AreRuns (l : Linked) (runs : List Outcome) : Type 0 where
  pub starts : List Store
  pub are_starts : All (IsStart l.kernel) starts
  pub outcomes : AllZip (IsOutcome l) starts runs
