-- What a part of the code does: where a run stands before some items, it also stands after them.
use Rattle.std.specs.Prelude.{ℕ, ◌+◌, ◌≡◌, ◌≤◌, ◌<◌, ℤ, List, [], map, length, slice_get, slice_set, get_or, Some}
use Rattle.std.specs.List.{range_with_len}
use Rattle.rely_kernel.specs.declared.kernel.Linked.{Linked}
use Rattle.rely_kernel.specs.declared.setting.Store.{Store}
use Rattle.rely_kernel.specs.Bound.{HasShape}
use Rattle.rely_kernel.specs.Labels.{labels_of}
use Rattle.rely_kernel.specs.Valid.{IsLinked, PlaceFits}
use Rattle.rely_kernel.specs.Machine.{Config, Frame, Item, functions, after, passed, trace, steps}
use Rattle.rely_machine.specs.declared.function.Function.{Function}
use Rattle.rely_machine.specs.Table.{body_table, entries}
use Rattle.rely_machine.specs.Run.{uses_at, entered}

-- ---- counts

-- the uses of each function's labels, the entries of each but the last, the steps, and how many these must stay below
pub record Counts : Type 0 where
  pub uses : List (List ℕ)
  pub entries : List ℕ
  pub steps : ℕ
  pub limit : ℕ

-- one more at a place
abbrev pub one_more : List ℕ → ℕ → List ℕ
one_more xs i = slice_set xs i (get_or xs i 0 + 1)

-- a chance step of the function with number f, at the label with number i
abbrev pub with_use : Counts → ℕ → ℕ → Counts
with_use t f i = record t { uses = slice_set t.uses f (one_more (get_or t.uses f []) i); steps = t.steps + 1 }

-- n steps
abbrev pub with_steps : Counts → ℕ → Counts
with_steps t n = record t { steps = t.steps + n }

-- a call of the function with number g, which is n steps
abbrev pub with_entry : Counts → ℕ → ℕ → Counts
with_entry t g n = record t { entries = one_more t.entries g; steps = t.steps + n }

-- a row for each function, with a number for each of its labels
pub record HasRows (l : Linked) (t : Counts) : Type 0 where
  pub rows : map length t.uses ≡ map labels_of (functions l)
  pub entries : length t.entries ≡ length l.inner

-- ---- runs

-- the run from the configuration c stands at d, and that was counted on its way
pub record Stands (l : Linked) (c d : Config) (t : Counts) : Type 0 where
  pub n : ℕ
  pub leads : after (functions l) n c ≡ d
  pub uses : t.uses ≡ map (uses_at (functions l) (trace (functions l) n c)) (range_with_len 0 (length (functions l)))
  pub entries : t.entries ≡ map (entered (functions l) (passed (functions l) n c)) (range_with_len 0 (length l.inner))
  pub steps : t.steps ≡ steps (functions l) n c

-- the run from there takes so many steps or more
pub record Takes (l : Linked) (c : Config) (limit : ℕ) : Type 0 where
  pub n : ℕ
  pub steps : limit ≤ steps (functions l) n c

-- ---- a function that runs

-- it is one of them and knows the tables of all, it holds a store of its shape, and each function that it may call was
-- entered no more often than steps were taken
pub record IsRunning (r : Function) (s : Store) (t : Counts) : Type 0 where
  pub linked : IsLinked r.linked.now
  pub known : slice_get (functions r.linked.now) r.at ≡ Some r.kernel.now
  pub tables : map entries r.tables.now ≡ map body_table (functions r.linked.now)
  pub shape : HasShape r.kernel.now s
  pub rows : HasRows r.linked.now t
  pub entries : (g : ℕ) → g < r.at → get_or t.entries g 0 ≤ t.steps

-- the counts have no fewer steps, and at the number f and above as many entries
pub record Keeps (f : ℕ) (t u : Counts) : Type 0 where
  pub above : (g : ℕ) → f ≤ g → get_or u.entries g 0 ≡ get_or t.entries g 0
  pub steps : t.steps ≤ u.steps
  pub limit : u.limit ≡ t.limit

-- what is to do, over whatever else is to do
abbrev pub standing : Function → List Item → List ℤ → Store → List Frame → Config
standing r items stack store frames = record { items = items; stack = stack; function = r.at; store = store; frames = frames }

-- wherever a run stands before the items, it stands after them too; on the stack they find and leave that
pub record Runs (r : Function) (items : List Item → List Item) (finds leaves : List ℤ → List ℤ) (s : Store) (t : Counts) (s' : Store) (t' : Counts) : Type 0 where
  pub running : IsRunning r s' t'
  pub keeps : Keeps r.at t t'
  pub goes : (c : Config) (more : List Item) (stack : List ℤ) (frames : List Frame)
      → Stands r.linked.now c (standing r (items more) (finds stack) s frames) t → Stands r.linked.now c (standing r more (leaves stack) s' frames) t'

-- wherever a run stands before the items, it takes as many steps as its limit or more
pub record Exceeds (r : Function) (items : List Item → List Item) (finds : List ℤ → List ℤ) (s : Store) (t : Counts) : Type 0 where
  pub takes : (c : Config) (more : List Item) (stack : List ℤ) (frames : List Frame)
      → Stands r.linked.now c (standing r (items more) (finds stack) s frames) t → Takes r.linked.now c t.limit

-- a call place of the function, which fits
pub record IsPlace (r : Function) (place : ℕ) : Type 0 where
  pub arguments : ℕ
  pub fits : PlaceFits (functions r.linked.now) r.at r.kernel.now (place, arguments)
