-- What choices and loops take.
use Rattle.std.proofs.Common.{◌≡◌, ◌≢◌, ℕ, zero, suc, ℤ, pos, negsuc, List, ◌∷◌, refl, subst, ◌∙◌, arith}
use Rattle.rand_pcg.specs.Lcg.{Lcg}
use Rattle.rely_kernel.specs.Machine.{Item, Choose, While, Repeat, Enter, items, expr_items, stmt_items}
use Rattle.rely_kernel.specs.Text.{Expr, Stmt, Block, done, ◌then◌, append}
use Rattle.rely_kernel.proofs.Skip.{items-append}
use Rattle.rely_faults.specs.declared.running.Running.{Running}
use Rattle.rely_faults.specs.Going.{Counts, Ends, Exceeds, IsFull, IsRunning, Point, Runs, Stands, here, standing, with_step}
use Rattle.rely_faults.specs.Trial.{Trying}
use Rattle.rely_faults.proofs.Walking.{enter_exceeds, enter_runs, exceeds_first, free}

-- the trial that stands before some items stands before others
pub record Leads (r : Running) (a b : List Item → List Item) (u v : Point) : Type 0 where
  pub running : IsRunning r v.store
  pub limit : v.counts.limit ≡ u.counts.limit
  pub goes : (x : Trying) (more : List Item) (stack : List ℤ) → Stands r x (standing (a more) stack u.store) u → Stands r x (standing (b more) stack v.store) v

module _ (r : Running) where
  pub leads_first : (a : List Item → List Item) (u : Point) → IsRunning r u.store → Leads r a a u u
  leads_first a u h = record { running = h; limit = refl; goes = λ x more st stands. stands }

  pub leads_start : (f : ℕ → List Item → List Item) (n m : ℕ) → n ≡ m → (u : Point) → IsRunning r u.store → Leads r (f n) (f m) u u
  leads_start f n m e u h = subst (λ k. Leads r (f n) (f k) u u) e (leads_first (f n) u h)

  -- what follows
  pub then_runs : {a b d : List Item → List Item} {u v w : Point} → Leads r a (λ more. b (d more)) u v → Runs r b (λ st. st) (λ st. st) v w → Leads r a d u w
  then_runs {a} {b} {d} y z = record {
    running = z.running;
    limit = z.limit ∙ y.limit;
    goes = λ x more st stands. z.goes x (d more) st (y.goes x more st stands);
  }

  pub then_exceeds : {a b : List Item → List Item} {u v : Point} {g : Lcg} (d : List Item → List Item) → Leads r a (λ more. b (d more)) u v → Exceeds r b (λ st. st) v g → Exceeds r a (λ st. st) u g
  then_exceeds {a} {b} {u} {v} {g} d y z = record {
    ends = λ x more st stands. subst (λ n. Ends r x n g) y.limit (z.ends x (d more) st (y.goes x more st stands));
  }

  pub last_runs : {a : List Item → List Item} {u v : Point} → Leads r a (λ more. more) u v → Runs r a (λ st. st) (λ st. st) u v
  last_runs y = record { running = y.running; limit = y.limit; goes = y.goes }

  -- ---- a repeat

  module _ (a : List Item → List Item) (b : Block) (u v : Point) where
    pub turns_end : (n : ℕ) → n ≡ 0 → Leads r a (λ more. Repeat n b ∷ more) u v → Runs r a (λ st. st) (λ st. st) u v
    turns_end zero e h = record {
      running = h.running;
      limit = h.limit;
      goes = λ x more st stands. free r x (standing (Repeat 0 b ∷ more) st v.store) v (h.goes x more st stands) (standing more st v.store) refl refl;
    }
    turns_end (suc n) e h = absurd (omega (arith, e))

    -- a turn is one mark and the text
    turn : (m : ℕ) → Leads r a (λ more. Repeat (suc m) b ∷ more) u v → Leads r a (λ more. Enter ∷ items b (Repeat m b ∷ more)) u v
    turn m h = record {
      running = h.running;
      limit = h.limit;
      goes = λ x more st stands. free r x (standing (Repeat (suc m) b ∷ more) st v.store) v (h.goes x more st stands) (standing (Enter ∷ items b (Repeat m b ∷ more)) st v.store) refl refl;
    }

    turn_by : (n m : ℕ) → n ≡ suc m → Leads r a (λ more. Repeat n b ∷ more) u v → Leads r a (λ more. Enter ∷ items b (Repeat m b ∷ more)) u v
    turn_by n m e h = turn m (subst (λ k. Leads r a (λ more. Repeat k b ∷ more) u v) e h)

    pub turn_goes : {t' : Counts} {w : Point} (n m : ℕ) → n ≡ suc m → Leads r a (λ more. Repeat n b ∷ more) u v → t' ≡ with_step v.counts 0 → Runs r (items b) (λ st. st) (λ st. st) (here v.store t' v.words) w
        → Leads r a (λ more. Repeat m b ∷ more) u w
    turn_goes {t'} n m e h count body = then_runs (then_runs (turn_by n m e h) (enter_runs r (λ st. st) v.store v.counts t' v.words count h.running)) body

    pub turn_stops : (n m : ℕ) → n ≡ suc m → Leads r a (λ more. Repeat n b ∷ more) u v → IsFull v.counts → Exceeds r a (λ st. st) u v.words
    turn_stops n m e h full = then_exceeds (λ more. items b (Repeat m b ∷ more)) (turn_by n m e h) (enter_exceeds r (λ st. st) v full)

    pub turn_stops_then : {t' : Counts} {g : Lcg} (n m : ℕ) → n ≡ suc m → Leads r a (λ more. Repeat n b ∷ more) u v → t' ≡ with_step v.counts 0 → Exceeds r (items b) (λ st. st) (here v.store t' v.words) g → Exceeds r a (λ st. st) u g
    turn_stops_then {t'} n m e h count body = then_exceeds (λ more. Repeat m b ∷ more) (then_runs (turn_by n m e h) (enter_runs r (λ st. st) v.store v.counts t' v.words count h.running)) body

  -- ---- choices

  -- a choice puts a branch before the rest
  pub record Picks (y z chosen : Block) (n : ℤ) : Type 0 where
    pub goes : (u : Point) (x : Trying) (more : List Item) (stack : List ℤ) → Stands r x (standing (Choose y z ∷ more) (n ∷ stack) u.store) u → Stands r x (standing (items chosen more) stack u.store) u

  pub picks_yes : (y z : Block) (n : ℤ) → n ≢ pos 0 → Picks y z y n
  picks_yes y z (pos zero) ne = absurd (ne refl)
  picks_yes y z (pos (suc n)) ne = record { goes = λ u x more st stands. free r x (standing (Choose y z ∷ more) (pos (suc n) ∷ st) u.store) u stands (standing (items y more) st u.store) refl refl }
  picks_yes y z (negsuc n) ne = record { goes = λ u x more st stands. free r x (standing (Choose y z ∷ more) (negsuc n ∷ st) u.store) u stands (standing (items y more) st u.store) refl refl }

  pub picks_no : (y z : Block) (n : ℤ) → n ≡ pos 0 → Picks y z z n
  picks_no y z (pos zero) e = record { goes = λ u x more st stands. free r x (standing (Choose y z ∷ more) (pos 0 ∷ st) u.store) u stands (standing (items z more) st u.store) refl refl }
  picks_no y z (pos (suc n)) e = absurd (cc)
  picks_no y z (negsuc n) e = absurd (cc)

  module _ (e : Expr) (y z : Block) (u : Point) where
    pub if_goes : {v w : Point} (chosen : Block) (n : ℤ) → Runs r (expr_items e) (λ st. st) (λ st. n ∷ st) u v → Picks y z chosen n → Runs r (items chosen) (λ st. st) (λ st. st) v w
        → Runs r (stmt_items (Stmt.If e y z)) (λ st. st) (λ st. st) u w
    if_goes {v} {w} chosen n test picks body = record {
      running = body.running;
      limit = body.limit ∙ test.limit;
      goes = λ x more st stands. body.goes x more st (picks.goes v x more st (test.goes x (Choose y z ∷ more) st stands));
    }

    pub if_stops_first : {g : Lcg} → Exceeds r (expr_items e) (λ st. st) u g → Exceeds r (stmt_items (Stmt.If e y z)) (λ st. st) u g
    if_stops_first h = exceeds_first r (λ more. Choose y z ∷ more) h

    pub if_stops : {v : Point} {g : Lcg} (chosen : Block) (n : ℤ) → Runs r (expr_items e) (λ st. st) (λ st. n ∷ st) u v → Picks y z chosen n → Exceeds r (items chosen) (λ st. st) v g → Exceeds r (stmt_items (Stmt.If e y z)) (λ st. st) u g
    if_stops {v} {g} chosen n test picks body = record {
      ends = λ x more st stands. subst (λ m. Ends r x m g) test.limit (body.ends x more st (picks.goes v x more st (test.goes x (Choose y z ∷ more) st stands)));
    }

  -- ---- a while

  module _ (a : List Item → List Item) (e : Expr) (b : Block) (u v : Point) where
    abbrev again : ℕ → Block
    again m = Stmt.Enter then append b (Stmt.While e m b then done)

    pub rounds_end : (n : ℕ) → n ≡ 0 → Leads r a (λ more. While e n b ∷ more) u v → Runs r a (λ st. st) (λ st. st) u v
    rounds_end zero is h = record {
      running = h.running;
      limit = h.limit;
      goes = λ x more st stands. free r x (standing (While e 0 b ∷ more) st v.store) v (h.goes x more st stands) (standing more st v.store) refl refl;
    }
    rounds_end (suc n) is h = absurd (omega (arith, is))

    round : (m : ℕ) → Leads r a (λ more. While e (suc m) b ∷ more) u v → Leads r a (λ more. expr_items e (Choose (again m) done ∷ more)) u v
    round m h = record {
      running = h.running;
      limit = h.limit;
      goes = λ x more st stands. free r x (standing (While e (suc m) b ∷ more) st v.store) v (h.goes x more st stands) (standing (expr_items e (Choose (again m) done ∷ more)) st v.store) refl refl;
    }

    round_by : (n m : ℕ) → n ≡ suc m → Leads r a (λ more. While e n b ∷ more) u v → Leads r a (λ more. expr_items e (Choose (again m) done ∷ more)) u v
    round_by n m is h = round m (subst (λ k. Leads r a (λ more. While e k b ∷ more) u v) is h)

    -- the condition's value picks
    tested : {w : Point} (chosen : Block) (m : ℕ) (z : ℤ) → Leads r a (λ more. expr_items e (Choose (again m) done ∷ more)) u v → Runs r (expr_items e) (λ st. st) (λ st. z ∷ st) v w → Picks (again m) done chosen z
        → Leads r a (items chosen) u w
    tested {w} chosen m z h test picks = record {
      running = test.running;
      limit = test.limit ∙ h.limit;
      goes = λ x more st stands. picks.goes w x more st (test.goes x (Choose (again m) done ∷ more) st (h.goes x more st stands));
    }

    entered : {w : Point} (m : ℕ) → Leads r a (items (again m)) u w → Leads r a (λ more. Enter ∷ items b (While e m b ∷ more)) u w
    entered {w} m h = record {
      running = h.running;
      limit = h.limit;
      goes = λ x more st stands. subst (λ is. Stands r x (standing (Enter ∷ is) st w.store) w) (items-append b (Stmt.While e m b then done) more) (h.goes x more st stands);
    }

    pub round_ends : {w : Point} (n m : ℕ) → n ≡ suc m → (z : ℤ) → Leads r a (λ more. While e n b ∷ more) u v → Runs r (expr_items e) (λ st. st) (λ st. z ∷ st) v w → z ≡ pos 0 → Runs r a (λ st. st) (λ st. st) u w
    round_ends n m is z h test zero_is = last_runs (tested done m z (round_by n m is h) test (picks_no (again m) done z zero_is))

    module _ (w : Point) (n m : ℕ) (is : n ≡ suc m) (z : ℤ) (h : Leads r a (λ more. While e n b ∷ more) u v) (test : Runs r (expr_items e) (λ st. st) (λ st. z ∷ st) v w) (ne : z ≢ pos 0) where
      goes_on : Leads r a (λ more. Enter ∷ items b (While e m b ∷ more)) u w
      goes_on = entered m (tested (again m) m z (round_by n m is h) test (picks_yes (again m) done z ne))

      pub round_goes : {t' : Counts} {w' : Point} → t' ≡ with_step w.counts 0 → Runs r (items b) (λ st. st) (λ st. st) (here w.store t' w.words) w' → Leads r a (λ more. While e m b ∷ more) u w'
      round_goes {t'} count body = then_runs (then_runs goes_on (enter_runs r (λ st. st) w.store w.counts t' w.words count test.running)) body

      pub round_stops : IsFull w.counts → Exceeds r a (λ st. st) u w.words
      round_stops full = then_exceeds (λ more. items b (While e m b ∷ more)) goes_on (enter_exceeds r (λ st. st) w full)

      pub round_stops_then : {t' : Counts} {g : Lcg} → t' ≡ with_step w.counts 0 → Exceeds r (items b) (λ st. st) (here w.store t' w.words) g → Exceeds r a (λ st. st) u g
      round_stops_then {t'} count body = then_exceeds (λ more. While e m b ∷ more) (then_runs goes_on (enter_runs r (λ st. st) w.store w.counts t' w.words count test.running)) body

    pub round_stops_first : {g : Lcg} (n m : ℕ) → n ≡ suc m → Leads r a (λ more. While e n b ∷ more) u v → Exceeds r (expr_items e) (λ st. st) v g → Exceeds r a (λ st. st) u g
    round_stops_first n m is h test = then_exceeds (λ more. Choose (again m) done ∷ more) (round_by n m is h) test
