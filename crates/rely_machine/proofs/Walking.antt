-- How parts of a run follow one another, and what each item does.
use Rattle.std.proofs.Common.{◌≡◌, ℕ, zero, suc, ◌+◌, ◌<◌, ◌≤◌, ℤ, List, [], ◌∷◌, length, map, get_or, refl, ap, subst, ◌∙◌, arith}
use Rattle.std.specs.Prelude.{slice_set}
use Rattle.rely_kernel.specs.declared.kernel.Linked.{Linked}
use Rattle.rely_kernel.specs.declared.label.Label.TheVariants as label
use Rattle.rely_kernel.specs.declared.setting.Store.{Store}
use Rattle.rely_kernel.specs.Bound.{HasShape}
use Rattle.rely_kernel.specs.Labels.{number}
use Rattle.rely_kernel.specs.Machine.{Item, Push, Read, Elem, Op, Write, WriteElem, Result, functions, cell, with_cell, top, operated, operator}
use Rattle.rely_kernel.specs.Meaning.{read_at, written_at}
use Rattle.rely_machine.specs.declared.function.Function.{Function}
use Rattle.rely_machine.specs.Going.{Counts, HasRows, IsRunning, Keeps, Runs, Exceeds, Takes, standing, one_more, with_use}
use Rattle.rely_machine.proofs.Steps.{chance, free, too_many}

-- ---- counts that are kept

pub keeps_all : (f : ℕ) (t : Counts) → Keeps f t t
keeps_all f t = record { above = λ g b. refl; steps = omega arith; limit = refl }

pub keeps_on : (f : ℕ) (t u v : Counts) → Keeps f t u → Keeps f u v → Keeps f t v
keeps_on f t u v h j = let a = h.steps in let b = j.steps in record {
  above = λ g b. j.above g b ∙ h.above g b;
  steps = omega (arith, a, b);
  limit = j.limit ∙ h.limit;
}

pub set_length : (xs : List ℕ) (i x : ℕ) → length (slice_set xs i x) ≡ length xs
set_length [] i x = refl
set_length (y ∷ ys) zero x = refl
set_length (y ∷ ys) (suc i) x = ap suc (set_length ys i x)

set_lengths : (rows : List (List ℕ)) (f : ℕ) (row : List ℕ) → length row ≡ length (get_or rows f []) → map length (slice_set rows f row) ≡ map length rows
set_lengths [] f row e = refl
set_lengths (r ∷ rs) zero row e = ap (λ n. n ∷ map length rs) e
set_lengths (r ∷ rs) (suc f) row e = ap (λ ns. length r ∷ ns) (set_lengths rs f row e)

-- one more use keeps the rows
pub rows_use : (l : Linked) (t : Counts) (f i : ℕ) → HasRows l t → HasRows l (with_use t f i)
rows_use l t f i h = record { rows = set_lengths t.uses f (one_more (get_or t.uses f []) i) (set_length (get_or t.uses f []) i (get_or (get_or t.uses f []) i 0 + 1)) ∙ h.rows; entries = h.entries }

module _ (r : Function) where
  -- ---- one part after another

  pub nothing : (f : List ℤ → List ℤ) (s : Store) (t : Counts) → IsRunning r s t → Runs r (λ is. is) f f s t s t
  nothing f s t h = record { running = h; keeps = keeps_all r.at t; goes = λ c more st fr stands. stands }

  pub and_then : {a b : List Item → List Item} {f g h : List ℤ → List ℤ} {s t s' t' s'' t'' : _} → Runs r a f g s t s' t' → Runs r b g h s' t' s'' t'' → Runs r (λ more. a (b more)) f h s t s'' t''
  and_then {a} {b} {f} {g} {h} {s} {t} {s'} {t'} {s''} {t''} x y = record {
    running = y.running;
    keeps = keeps_on r.at t t' t'' x.keeps y.keeps;
    goes = λ c more st fr stands. y.goes c more st fr (x.goes c (b more) st fr stands);
  }

  -- over more of the stack
  pub over : {a : List Item → List Item} {f g : List ℤ → List ℤ} {s t s' t' : _} (under : List ℤ → List ℤ) → Runs r a f g s t s' t' → Runs r a (λ st. f (under st)) (λ st. g (under st)) s t s' t'
  over under x = record { running = x.running; keeps = x.keeps; goes = λ c more st fr stands. x.goes c more (under st) fr stands }

  pub exceeds_over : {a : List Item → List Item} {f : List ℤ → List ℤ} {s t : _} (under : List ℤ → List ℤ) → Exceeds r a f s t → Exceeds r a (λ st. f (under st)) s t
  exceeds_over under x = record { takes = λ c more st fr stands. x.takes c more (under st) fr stands }

  pub exceeds_first : {a : List Item → List Item} {f : List ℤ → List ℤ} {s t : _} (b : List Item → List Item) → Exceeds r a f s t → Exceeds r (λ more. a (b more)) f s t
  exceeds_first b x = record { takes = λ c more st fr stands. x.takes c (b more) st fr stands }

  pub exceeds_then : {a b : List Item → List Item} {f g : List ℤ → List ℤ} {s t s' t' : _} → Runs r a f g s t s' t' → Exceeds r b g s' t' → Exceeds r (λ more. a (b more)) f s t
  exceeds_then {a} {b} {f} {g} {s} {t} {s'} {t'} x y = record {
    takes = λ c more st fr stands. subst (λ n. Takes r.linked.now c n) x.keeps.limit (y.takes c more st fr (x.goes c (b more) st fr stands));
  }

  -- ---- items that are exact

  pub push_runs : (z : ℤ) (s : Store) (t : Counts) → IsRunning r s t → Runs r (λ is. Push z ∷ is) (λ st. st) (λ st. z ∷ st) s t s t
  push_runs z s t h = record {
    running = h;
    keeps = keeps_all r.at t;
    goes = λ c more st fr stands. free r.linked.now c (standing r (Push z ∷ more) st s fr) t stands refl refl refl;
  }

  -- the store may change where its shape stays
  pub exact_running : (s s' : Store) (t : Counts) → IsRunning r s t → HasShape r.kernel.now s' → IsRunning r s' t
  exact_running s s' t h shape = record { linked = h.linked; known = h.known; tables = h.tables; shape = shape; rows = h.rows; entries = h.entries }

  pub result_runs : (z : ℤ) (s : Store) (t : Counts) → HasShape r.kernel.now (record s { result = z }) → IsRunning r s t → Runs r (λ is. Result ∷ is) (λ st. z ∷ st) (λ st. st) s t (record s { result = z }) t
  result_runs z s t shape h = record {
    running = exact_running s (record s { result = z }) t h shape;
    keeps = keeps_all r.at t;
    goes = λ c more st fr stands. free r.linked.now c (standing r (Result ∷ more) (z ∷ st) s fr) t stands refl refl refl;
  }

  -- ---- chance steps

  -- the function still runs
  pub use_running : (s s' : Store) (t : Counts) (i : ℕ) → IsRunning r s t → HasShape r.kernel.now s' → IsRunning r s' (with_use t r.at i)
  use_running s s' t i h shape = record {
    linked = h.linked;
    known = h.known;
    tables = h.tables;
    shape = shape;
    rows = rows_use r.linked.now t r.at i h.rows;
    entries = λ g b. let e = h.entries g b in omega (arith, e);
  }

  pub use_keeps : (t : Counts) (i : ℕ) → Keeps r.at t (with_use t r.at i)
  use_keeps t i = record { above = λ g b. refl; steps = omega arith; limit = refl }

  pub read_runs : (v : ℕ) (s : Store) (t : Counts) → v < length r.kernel.now.vars → IsRunning r s t → Runs r (λ is. Read v ∷ is) (λ st. st) (λ st. top (cell s v) ∷ st) s t s (with_use t r.at (number r.kernel.now (label.Read v)))
  read_runs v s t below h = record {
    running = use_running s s t (number r.kernel.now (label.Read v)) h h.shape;
    keeps = use_keeps t (number r.kernel.now (label.Read v));
    goes = λ c more st fr stands. chance r.linked.now c (standing r (Read v ∷ more) st s fr) t stands r.kernel.now (label.Read v) (number r.kernel.now (label.Read v)) h.known refl refl (omega (arith, below)) refl refl;
  }

  pub elem_runs : (a : ℕ) (z : ℤ) (s : Store) (t : Counts) → a < length r.kernel.now.vars → IsRunning r s t
      → Runs r (λ is. Elem a ∷ is) (λ st. z ∷ st) (λ st. read_at (cell s a) z ∷ st) s t s (with_use t r.at (number r.kernel.now (label.Read a)))
  elem_runs a z s t below h = record {
    running = use_running s s t (number r.kernel.now (label.Read a)) h h.shape;
    keeps = use_keeps t (number r.kernel.now (label.Read a));
    goes = λ c more st fr stands. chance r.linked.now c (standing r (Elem a ∷ more) (z ∷ st) s fr) t stands r.kernel.now (label.Read a) (number r.kernel.now (label.Read a)) h.known refl refl (omega (arith, below)) refl refl;
  }

  pub op_runs : (site : ℕ) (x y : ℤ) (s : Store) (t : Counts) → site < length r.kernel.now.sites → IsRunning r s t
      → Runs r (λ is. Op site ∷ is) (λ st. y ∷ x ∷ st) (λ st. operated (operator (functions r.linked.now) r.at site) x y ∷ st) s t s (with_use t r.at site)
  op_runs site x y s t below h = record {
    running = use_running s s t site h h.shape;
    keeps = use_keeps t site;
    goes = λ c more st fr stands. chance r.linked.now c (standing r (Op site ∷ more) (y ∷ x ∷ st) s fr) t stands r.kernel.now (label.Op site) site h.known refl refl (omega (arith, below)) refl refl;
  }

  pub write_runs : (v : ℕ) (z : ℤ) (s : Store) (t : Counts) → v < length r.kernel.now.vars → HasShape r.kernel.now (with_cell s v (z ∷ [])) → IsRunning r s t
      → Runs r (λ is. Write v ∷ is) (λ st. z ∷ st) (λ st. st) s t (with_cell s v (z ∷ [])) (with_use t r.at (number r.kernel.now (label.Write v)))
  write_runs v z s t below shape h = record {
    running = use_running s (with_cell s v (z ∷ [])) t (number r.kernel.now (label.Write v)) h shape;
    keeps = use_keeps t (number r.kernel.now (label.Write v));
    goes = λ c more st fr stands. chance r.linked.now c (standing r (Write v ∷ more) (z ∷ st) s fr) t stands r.kernel.now (label.Write v) (number r.kernel.now (label.Write v)) h.known refl refl (omega (arith, below)) refl refl;
  }

  pub write_elem_runs : (a : ℕ) (i z : ℤ) (s : Store) (t : Counts) → a < length r.kernel.now.vars → HasShape r.kernel.now (with_cell s a (written_at (cell s a) i z)) → IsRunning r s t
      → Runs r (λ is. WriteElem a ∷ is) (λ st. z ∷ i ∷ st) (λ st. st) s t (with_cell s a (written_at (cell s a) i z)) (with_use t r.at (number r.kernel.now (label.Write a)))
  write_elem_runs a i z s t below shape h = record {
    running = use_running s (with_cell s a (written_at (cell s a) i z)) t (number r.kernel.now (label.Write a)) h shape;
    keeps = use_keeps t (number r.kernel.now (label.Write a));
    goes = λ c more st fr stands. chance r.linked.now c (standing r (WriteElem a ∷ more) (z ∷ i ∷ st) s fr) t stands r.kernel.now (label.Write a) (number r.kernel.now (label.Write a)) h.known refl refl (omega (arith, below)) refl refl;
  }

  -- one chance step too many
  module _ (f : List ℤ → List ℤ) (s : Store) (t : Counts) (over : t.limit ≤ t.steps + 1) where
    pub read_exceeds : (v : ℕ) → Exceeds r (λ is. Read v ∷ is) f s t
    read_exceeds v = record { takes = λ c more st fr stands. too_many r.linked.now c (standing r (Read v ∷ more) (f st) s fr) t stands t.limit 1 refl over }

    pub elem_exceeds : (v : ℕ) → Exceeds r (λ is. Elem v ∷ is) f s t
    elem_exceeds v = record { takes = λ c more st fr stands. too_many r.linked.now c (standing r (Elem v ∷ more) (f st) s fr) t stands t.limit 1 refl over }

    pub op_exceeds : (site : ℕ) → Exceeds r (λ is. Op site ∷ is) f s t
    op_exceeds site = record { takes = λ c more st fr stands. too_many r.linked.now c (standing r (Op site ∷ more) (f st) s fr) t stands t.limit 1 refl over }

    pub write_exceeds : (v : ℕ) → Exceeds r (λ is. Write v ∷ is) f s t
    write_exceeds v = record { takes = λ c more st fr stands. too_many r.linked.now c (standing r (Write v ∷ more) (f st) s fr) t stands t.limit 1 refl over }

    pub write_elem_exceeds : (v : ℕ) → Exceeds r (λ is. WriteElem v ∷ is) f s t
    write_elem_exceeds v = record { takes = λ c more st fr stands. too_many r.linked.now c (standing r (WriteElem v ∷ more) (f st) s fr) t stands t.limit 1 refl over }
