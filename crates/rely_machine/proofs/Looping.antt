-- What choices and loops take.
use Rattle.std.proofs.Common.{◌≡◌, ◌≢◌, ℕ, zero, suc, ◌+◌, ◌≤◌, ℤ, pos, negsuc, List, ◌∷◌, refl, subst, arith}
use Rattle.rely_kernel.specs.declared.setting.Store.{Store}
use Rattle.rely_kernel.specs.Machine.{Config, Frame, Item, Choose, While, Repeat, Enter, items, expr_items, stmt_items}
use Rattle.rely_kernel.specs.Text.{Expr, Stmt, Block, done, ◌then◌, append}
use Rattle.rely_kernel.proofs.Skip.{items-append}
use Rattle.rely_machine.specs.declared.function.Function.{Function}
use Rattle.rely_machine.specs.Going.{Counts, IsRunning, Keeps, Runs, Exceeds, Stands, Takes, standing, with_steps}
use Rattle.rely_machine.proofs.Steps.{plain, free, too_many}
use Rattle.rely_machine.proofs.Walking.{keeps_all, keeps_on, exceeds_first}

-- the run that stands before some items stands before others
pub record Leads (r : Function) (a b : List Item → List Item) (s : Store) (t : Counts) (s' : Store) (t' : Counts) : Type 0 where
  pub running : IsRunning r s' t'
  pub keeps : Keeps r.at t t'
  pub goes : (c : Config) (more : List Item) (stack : List ℤ) (frames : List Frame) → Stands r.linked.now c (standing r (a more) stack s frames) t → Stands r.linked.now c (standing r (b more) stack s' frames) t'

module _ (r : Function) where
  pub leads_first : (a : List Item → List Item) (s : Store) (t : Counts) → IsRunning r s t → Leads r a a s t s t
  leads_first a s t h = record { running = h; keeps = keeps_all r.at t; goes = λ c more st fr stands. stands }

  pub leads_start : (f : ℕ → List Item → List Item) (n m : ℕ) → n ≡ m → (s : Store) (t : Counts) → IsRunning r s t → Leads r (f n) (f m) s t s t
  leads_start f n m e s t h = subst (λ k. Leads r (f n) (f k) s t s t) e (leads_first (f n) s t h)

  pub steps_running : (s : Store) (t : Counts) (n : ℕ) → IsRunning r s t → IsRunning r s (with_steps t n)
  steps_running s t n h = record {
    linked = h.linked;
    known = h.known;
    tables = h.tables;
    shape = h.shape;
    rows = record { rows = h.rows.rows; entries = h.rows.entries };
    entries = λ g b. let e = h.entries g b in omega (arith, e);
  }

  steps_keep : (t : Counts) (n : ℕ) → Keeps r.at t (with_steps t n)
  steps_keep t n = record { above = λ g b. refl; steps = omega arith; limit = refl }

  -- one turn's mark
  enter_runs : (f : List ℤ → List ℤ) (s : Store) (t : Counts) → IsRunning r s t → Runs r (λ is. Enter ∷ is) f f s t s (with_steps t 1)
  enter_runs f s t h = record {
    running = steps_running s t 1 h;
    keeps = steps_keep t 1;
    goes = λ c more st fr stands. plain r.linked.now c (standing r (Enter ∷ more) (f st) s fr) t stands 1 refl refl refl;
  }

  enter_exceeds : (f : List ℤ → List ℤ) (s : Store) (t : Counts) → t.limit ≤ t.steps + 1 → Exceeds r (λ is. Enter ∷ is) f s t
  enter_exceeds f s t over = record { takes = λ c more st fr stands. too_many r.linked.now c (standing r (Enter ∷ more) (f st) s fr) t stands t.limit 1 refl over }

  -- what follows
  pub then_runs : {a b d : List Item → List Item} {s t s' t' s'' t'' : _} → Leads r a (λ more. b (d more)) s t s' t' → Runs r b (λ st. st) (λ st. st) s' t' s'' t'' → Leads r a d s t s'' t''
  then_runs {a} {b} {d} {s} {t} {s'} {t'} {s''} {t''} x y = record {
    running = y.running;
    keeps = keeps_on r.at t t' t'' x.keeps y.keeps;
    goes = λ c more st fr stands. y.goes c (d more) st fr (x.goes c more st fr stands);
  }

  pub then_exceeds : {a b : List Item → List Item} {s t s' t' : _} (d : List Item → List Item) → Leads r a (λ more. b (d more)) s t s' t' → Exceeds r b (λ st. st) s' t' → Exceeds r a (λ st. st) s t
  then_exceeds {a} {b} {s} {t} {s'} {t'} d x y = record {
    takes = λ c more st fr stands. subst (λ n. Takes r.linked.now c n) x.keeps.limit (y.takes c (d more) st fr (x.goes c more st fr stands));
  }

  pub last_runs : {a : List Item → List Item} {s t s' t' : _} → Leads r a (λ more. more) s t s' t' → Runs r a (λ st. st) (λ st. st) s t s' t'
  last_runs x = record { running = x.running; keeps = x.keeps; goes = x.goes }

  -- ---- a repeat

  module _ (a : List Item → List Item) (x : Block) (s0 s : Store) (t0 t : Counts) where
    pub turns_end : (n : ℕ) → n ≡ 0 → Leads r a (λ more. Repeat n x ∷ more) s0 t0 s t → Runs r a (λ st. st) (λ st. st) s0 t0 s t
    turns_end zero e h = record {
      running = h.running;
      keeps = h.keeps;
      goes = λ c more st fr stands. free r.linked.now c (standing r (Repeat 0 x ∷ more) st s fr) t (h.goes c more st fr stands) refl refl refl;
    }
    turns_end (suc n) e h = absurd (omega (arith, e))

    -- a turn is one mark and the text
    turn : (m : ℕ) → Leads r a (λ more. Repeat (suc m) x ∷ more) s0 t0 s t → Leads r a (λ more. Enter ∷ items x (Repeat m x ∷ more)) s0 t0 s t
    turn m h = record {
      running = h.running;
      keeps = h.keeps;
      goes = λ c more st fr stands. free r.linked.now c (standing r (Repeat (suc m) x ∷ more) st s fr) t (h.goes c more st fr stands) refl refl refl;
    }

    turn_by : (n m : ℕ) → n ≡ suc m → Leads r a (λ more. Repeat n x ∷ more) s0 t0 s t → Leads r a (λ more. Enter ∷ items x (Repeat m x ∷ more)) s0 t0 s t
    turn_by n m e h = turn m (subst (λ k. Leads r a (λ more. Repeat k x ∷ more) s0 t0 s t) e h)

    pub turn_goes : {s' : Store} {u u' : Counts} (n m : ℕ) → n ≡ suc m → Leads r a (λ more. Repeat n x ∷ more) s0 t0 s t → u ≡ with_steps t 1 → Runs r (items x) (λ st. st) (λ st. st) s u s' u'
        → Leads r a (λ more. Repeat m x ∷ more) s0 t0 s' u'
    turn_goes {s'} {u} {u'} n m e h count body =
        then_runs (then_runs (turn_by n m e h) (enter_runs (λ st. st) s t h.running)) (subst (λ v. Runs r (items x) (λ st. st) (λ st. st) s v s' u') count body)

    pub turn_stops : (n m : ℕ) → n ≡ suc m → Leads r a (λ more. Repeat n x ∷ more) s0 t0 s t → t.limit ≤ t.steps + 1 → Exceeds r a (λ st. st) s0 t0
    turn_stops n m e h many = then_exceeds (λ more. items x (Repeat m x ∷ more)) (turn_by n m e h) (enter_exceeds (λ st. st) s t many)

    pub turn_stops_then : {u : Counts} (n m : ℕ) → n ≡ suc m → Leads r a (λ more. Repeat n x ∷ more) s0 t0 s t → u ≡ with_steps t 1 → Exceeds r (items x) (λ st. st) s u → Exceeds r a (λ st. st) s0 t0
    turn_stops_then n m e h count body =
        then_exceeds (λ more. Repeat m x ∷ more) (then_runs (turn_by n m e h) (enter_runs (λ st. st) s t h.running)) (subst (λ v. Exceeds r (items x) (λ st. st) s v) count body)

  -- ---- choices

  -- a choice puts a branch before the rest
  pub record Picks (x y chosen : Block) (z : ℤ) : Type 0 where
    pub goes : (s : Store) (t : Counts) (c : Config) (more : List Item) (stack : List ℤ) (frames : List Frame) → Stands r.linked.now c (standing r (Choose x y ∷ more) (z ∷ stack) s frames) t
        → Stands r.linked.now c (standing r (items chosen more) stack s frames) t

  pub picks_yes : (x y : Block) (z : ℤ) → z ≢ pos 0 → Picks x y x z
  picks_yes x y (pos zero) ne = absurd (ne refl)
  picks_yes x y (pos (suc n)) ne = record { goes = λ s t c more st fr stands. free r.linked.now c (standing r (Choose x y ∷ more) (pos (suc n) ∷ st) s fr) t stands refl refl refl }
  picks_yes x y (negsuc n) ne = record { goes = λ s t c more st fr stands. free r.linked.now c (standing r (Choose x y ∷ more) (negsuc n ∷ st) s fr) t stands refl refl refl }

  pub picks_no : (x y : Block) (z : ℤ) → z ≡ pos 0 → Picks x y y z
  picks_no x y (pos zero) e = record { goes = λ s t c more st fr stands. free r.linked.now c (standing r (Choose x y ∷ more) (pos 0 ∷ st) s fr) t stands refl refl refl }
  picks_no x y (pos (suc n)) e = absurd (cc)
  picks_no x y (negsuc n) e = absurd (cc)

  module _ (e : Expr) (x y : Block) (s : Store) (t : Counts) where
    pub if_goes : {t1 : Counts} {s' : Store} {u : Counts} (chosen : Block) (z : ℤ) → Runs r (expr_items e) (λ st. st) (λ st. z ∷ st) s t s t1 → Picks x y chosen z → Runs r (items chosen) (λ st. st) (λ st. st) s t1 s' u
        → Runs r (stmt_items (Stmt.If e x y)) (λ st. st) (λ st. st) s t s' u
    if_goes {t1} {s'} {u} chosen z test picks body = record {
      running = body.running;
      keeps = keeps_on r.at t t1 u test.keeps body.keeps;
      goes = λ c more st fr stands. body.goes c more st fr (picks.goes s t1 c more st fr (test.goes c (Choose x y ∷ more) st fr stands));
    }

    pub if_stops_first : Exceeds r (expr_items e) (λ st. st) s t → Exceeds r (stmt_items (Stmt.If e x y)) (λ st. st) s t
    if_stops_first h = exceeds_first r (λ more. Choose x y ∷ more) h

    pub if_stops : {t1 : Counts} (chosen : Block) (z : ℤ) → Runs r (expr_items e) (λ st. st) (λ st. z ∷ st) s t s t1 → Picks x y chosen z → Exceeds r (items chosen) (λ st. st) s t1 → Exceeds r (stmt_items (Stmt.If e x y)) (λ st. st) s t
    if_stops {t1} chosen z test picks body = record {
      takes = λ c more st fr stands. subst (λ n. Takes r.linked.now c n) test.keeps.limit (body.takes c more st fr (picks.goes s t1 c more st fr (test.goes c (Choose x y ∷ more) st fr stands)));
    }

  -- ---- a while

  module _ (a : List Item → List Item) (e : Expr) (x : Block) (s0 s : Store) (t0 t : Counts) where
    abbrev again : ℕ → Block
    again m = Stmt.Enter then append x (Stmt.While e m x then done)

    pub rounds_end : (n : ℕ) → n ≡ 0 → Leads r a (λ more. While e n x ∷ more) s0 t0 s t → Runs r a (λ st. st) (λ st. st) s0 t0 s t
    rounds_end zero is h = record {
      running = h.running;
      keeps = h.keeps;
      goes = λ c more st fr stands. free r.linked.now c (standing r (While e 0 x ∷ more) st s fr) t (h.goes c more st fr stands) refl refl refl;
    }
    rounds_end (suc n) is h = absurd (omega (arith, is))

    round : (m : ℕ) → Leads r a (λ more. While e (suc m) x ∷ more) s0 t0 s t → Leads r a (λ more. expr_items e (Choose (again m) done ∷ more)) s0 t0 s t
    round m h = record {
      running = h.running;
      keeps = h.keeps;
      goes = λ c more st fr stands. free r.linked.now c (standing r (While e (suc m) x ∷ more) st s fr) t (h.goes c more st fr stands) refl refl refl;
    }

    round_by : (n m : ℕ) → n ≡ suc m → Leads r a (λ more. While e n x ∷ more) s0 t0 s t → Leads r a (λ more. expr_items e (Choose (again m) done ∷ more)) s0 t0 s t
    round_by n m is h = round m (subst (λ k. Leads r a (λ more. While e k x ∷ more) s0 t0 s t) is h)

    -- the condition's value picks
    tested : {t1 : Counts} (chosen : Block) (m : ℕ) (z : ℤ) → Leads r a (λ more. expr_items e (Choose (again m) done ∷ more)) s0 t0 s t → Runs r (expr_items e) (λ st. st) (λ st. z ∷ st) s t s t1 → Picks (again m) done chosen z
        → Leads r a (items chosen) s0 t0 s t1
    tested {t1} chosen m z h test picks = record {
      running = test.running;
      keeps = keeps_on r.at t0 t t1 h.keeps test.keeps;
      goes = λ c more st fr stands. picks.goes s t1 c more st fr (test.goes c (Choose (again m) done ∷ more) st fr (h.goes c more st fr stands));
    }

    entered : {t1 : Counts} (m : ℕ) → Leads r a (items (again m)) s0 t0 s t1 → Leads r a (λ more. Enter ∷ items x (While e m x ∷ more)) s0 t0 s t1
    entered {t1} m h = record {
      running = h.running;
      keeps = h.keeps;
      goes = λ c more st fr stands. subst (λ is. Stands r.linked.now c (standing r (Enter ∷ is) st s fr) t1) (items-append x (Stmt.While e m x then done) more) (h.goes c more st fr stands);
    }

    pub round_ends : {t1 : Counts} (n m : ℕ) → n ≡ suc m → (z : ℤ) → Leads r a (λ more. While e n x ∷ more) s0 t0 s t → Runs r (expr_items e) (λ st. st) (λ st. z ∷ st) s t s t1 → z ≡ pos 0 → Runs r a (λ st. st) (λ st. st) s0 t0 s t1
    round_ends n m is z h test zero_is = last_runs (tested done m z (round_by n m is h) test (picks_no (again m) done z zero_is))

    pub round_goes : {s' : Store} {t1 u u' : Counts} (n m : ℕ) → n ≡ suc m → (z : ℤ) → Leads r a (λ more. While e n x ∷ more) s0 t0 s t → Runs r (expr_items e) (λ st. st) (λ st. z ∷ st) s t s t1 → z ≢ pos 0
        → u ≡ with_steps t1 1 → Runs r (items x) (λ st. st) (λ st. st) s u s' u' → Leads r a (λ more. While e m x ∷ more) s0 t0 s' u'
    round_goes {s'} {t1} {u} {u'} n m is z h test ne count body =
        then_runs (then_runs (entered m (tested (again m) m z (round_by n m is h) test (picks_yes (again m) done z ne))) (enter_runs (λ st. st) s t1 test.running))
        (subst (λ v. Runs r (items x) (λ st. st) (λ st. st) s v s' u') count body)

    pub round_stops_first : (n m : ℕ) → n ≡ suc m → Leads r a (λ more. While e n x ∷ more) s0 t0 s t → Exceeds r (expr_items e) (λ st. st) s t → Exceeds r a (λ st. st) s0 t0
    round_stops_first n m is h test = then_exceeds (λ more. Choose (again m) done ∷ more) (round_by n m is h) test

    pub round_stops : {t1 : Counts} (n m : ℕ) → n ≡ suc m → (z : ℤ) → Leads r a (λ more. While e n x ∷ more) s0 t0 s t → Runs r (expr_items e) (λ st. st) (λ st. z ∷ st) s t s t1 → z ≢ pos 0 → t1.limit ≤ t1.steps + 1
        → Exceeds r a (λ st. st) s0 t0
    round_stops {t1} n m is z h test ne many = then_exceeds (λ more. items x (While e m x ∷ more)) (entered m (tested (again m) m z (round_by n m is h) test (picks_yes (again m) done z ne))) (enter_exceeds (λ st. st) s t1 many)

    pub round_stops_then : {t1 u : Counts} (n m : ℕ) → n ≡ suc m → (z : ℤ) → Leads r a (λ more. While e n x ∷ more) s0 t0 s t → Runs r (expr_items e) (λ st. st) (λ st. z ∷ st) s t s t1 → z ≢ pos 0 → u ≡ with_steps t1 1
        → Exceeds r (items x) (λ st. st) s u → Exceeds r a (λ st. st) s0 t0
    round_stops_then {t1} n m is z h test ne count body =
        then_exceeds (λ more. While e m x ∷ more) (then_runs (entered m (tested (again m) m z (round_by n m is h) test (picks_yes (again m) done z ne))) (enter_runs (λ st. st) s t1 test.running))
        (subst (λ v. Exceeds r (items x) (λ st. st) s v) count body)
