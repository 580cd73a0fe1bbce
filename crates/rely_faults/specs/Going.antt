-- What a part of the code does: where a trial stands before some items, it also stands after them.
use Rattle.std.specs.Prelude.{ℕ, suc, ◌+◌, ◌≡◌, ◌<◌, ◌≤◌, ℤ, List, []}
use Rattle.std.specs.Option.{unwrap_or}
use Rattle.rand_pcg.specs.Lcg.{Lcg}
use Rattle.rely_kernel.specs.declared.setting.Store.{Store}
use Rattle.rely_kernel.specs.Bound.{HasShape}
use Rattle.rely_kernel.specs.Machine.{Config, Item}
use Rattle.rely_kernel.specs.Setting.{Fits}
use Rattle.rely_faults.specs.declared.running.Running.{Running}
use Rattle.rely_faults.specs.declared.outcome.Tried.{Tried}
use Rattle.rely_faults.specs.Setup.{Setup}
use Rattle.rely_faults.specs.Trial.{Draw, Trying, draw, trial_after, trial_steps}

-- ---- counts

-- the words that were taken, the steps, and how many these must stay below
pub record Counts : Type 0 where
  pub taken : ℕ
  pub steps : ℕ
  pub limit : ℕ

-- one step more, and that many words
abbrev pub with_step : Counts → ℕ → Counts
with_step t taken = record t { taken = t.taken + taken; steps = t.steps + 1 }

-- what a step leaves: the wrong number that was drawn, else the right one
abbrev pub left_by : Draw → ℤ → ℤ
left_by d right = unwrap_or d.wrong right

-- a chance step at the reliability p, which leaves z
pub record Steps (p : ℕ) (right : ℤ) (t : Counts) (g : Lcg) (z : ℤ) (t' : Counts) (g' : Lcg) : Type 0 where
  pub number : z ≡ left_by (draw p g) right
  pub counts : t' ≡ with_step t (draw p g).taken
  pub words : g' ≡ (draw p g).words

-- one step more would reach the limit
pub record IsFull (t : Counts) : Type 0 where
  pub below : t.steps < t.limit
  pub many : t.limit ≤ t.steps + 1

-- ---- trials

-- what runs, without its references
abbrev pub setup_of : Running → Setup
setup_of r = record { kernel = r.kernel.now; hardware = r.hardware.now; setting = r.setting.now }

-- what a trial leaves, by the store and the counts at its end
abbrev pub outcome_of : Store → Counts → Tried
outcome_of s t = record { store = s; steps = t.steps; words = t.taken }

-- what the code holds: the store, the counts and the generator
pub record Point : Type 0 where
  pub store : Store
  pub counts : Counts
  pub words : Lcg

abbrev pub here : Store → Counts → Lcg → Point
here s t g = record { store = s; counts = t; words = g }

-- the trial from x stands at the configuration d, with the counts and the generator of a
pub record Stands (r : Running) (x : Trying) (d : Config) (a : Point) : Type 0 where
  pub n : ℕ
  pub leads : trial_after r.kernel.now r.hardware.now r.setting.now n x ≡ record { config = d; words = a.words; taken = a.counts.taken }
  pub steps : a.counts.steps ≡ trial_steps r.kernel.now r.hardware.now r.setting.now n x

-- the first n steps of the trial from x count less than the limit, but one more would not; they leave the generator so
pub record Ends (r : Running) (x : Trying) (limit : ℕ) (g : Lcg) : Type 0 where
  pub n : ℕ
  pub words : (trial_after r.kernel.now r.hardware.now r.setting.now n x).words ≡ g
  pub before : trial_steps r.kernel.now r.hardware.now r.setting.now n x < limit
  pub reached : limit ≤ trial_steps r.kernel.now r.hardware.now r.setting.now (suc n) x

-- what is to do, over whatever else is to do
abbrev pub standing : List Item → List ℤ → Store → Config
standing items stack store = record { items = items; stack = stack; function = 0; store = store; frames = [] }

-- the setting fits, and the store has the kernel's shape
pub record IsRunning (r : Running) (s : Store) : Type 0 where
  pub fits : Fits r.kernel.now r.hardware.now r.setting.now
  pub shape : HasShape r.kernel.now s

-- wherever a trial stands before the items, it stands after them too; on the stack they find and leave that
pub record Runs (r : Running) (items : List Item → List Item) (finds leaves : List ℤ → List ℤ) (a b : Point) : Type 0 where
  pub running : IsRunning r b.store
  pub limit : b.counts.limit ≡ a.counts.limit
  pub goes : (x : Trying) (more : List Item) (stack : List ℤ)
      → Stands r x (standing (items more) (finds stack) a.store) a → Stands r x (standing more (leaves stack) b.store) b

-- wherever a trial stands before the items, it reaches its limit, and g is left
pub record Exceeds (r : Running) (items : List Item → List Item) (finds : List ℤ → List ℤ) (a : Point) (g : Lcg) : Type 0 where
  pub ends : (x : Trying) (more : List Item) (stack : List ℤ)
      → Stands r x (standing (items more) (finds stack) a.store) a → Ends r x a.counts.limit g
