-- What takes no step is passed over: the run that stands before it stands behind it.
use Rattle.std.proofs.Common.{◌≡◌, ℕ, zero, suc, ◌+◌, ◌<◌, ◌≤◌, ◌==◌, ◌||◌, ℤ, pos, negsuc, true, List, ◌∷◌, drop, get_or, length, inl, inr, refl, sym, ap, subst, ◌∙◌, arith}
use Rattle.std.specs.Prelude.{◌⊎◌}
use Rattle.std.proofs.lemmas.List.{length-drop}
use Rattle.std.proofs.lemmas.Bool.{eqb-true, false≢true}
use Rattle.rely_kernel.specs.declared.setting.Store.{Store}
use Rattle.rely_kernel.specs.Machine.{Item, Choose, Repeat, While, items, stmt_items}
use Rattle.rely_kernel.specs.Text.{Expr, Stmt, Block, done, ◌then◌, append, stmt_of}
use Rattle.rely_kernel.proofs.Skip.{items-append}
use Rattle.rely_machine.specs.declared.function.Function.{Function}
use Rattle.rely_machine.specs.declared.live.Live.{Live}
use Rattle.rely_machine.specs.Going.{Counts, Exceeds, IsRunning, Runs, Stands, standing, with_steps}
use Rattle.rely_machine.specs.Table.{entries, is_zero, table_of}
use Rattle.rely_machine.proofs.Looping.{Leads, Picks, last_runs, leads_first, picks_no, picks_yes, round_ends, rounds_end, steps_running, then_exceeds, then_runs, turn_goes, turns_end}
use Rattle.rely_machine.proofs.Tables.{Left, Passes, behind_at, chooses, either, entries_long, here, left_at, left_whole, no_round, no_turn, none_left, passes_at, refuses}
use Rattle.rely_machine.proofs.Walking.{push_runs}

-- ---- loops without a turn, and choices by a number

module _ (r : Function) (s : Store) (t : Counts) (h : IsRunning r s t) where
  no_rounds : (c : Expr) (n : ℕ) (x : Block) → n ≡ 0 → Runs r (stmt_items (Stmt.While c n x)) (λ st. st) (λ st. st) s t s t
  no_rounds c n x is = rounds_end r (λ more. While c n x ∷ more) c x s s t t n is (leads_first r (λ more. While c n x ∷ more) s t h)

  while_zero : (c : Expr) (n : ℕ) (x : Block) → is_zero c ≡ true → Runs r (stmt_items (Stmt.While c n x)) (λ st. st) (λ st. st) s t s t
  while_zero c zero x is = no_rounds c 0 x refl
  while_zero (Expr.Num (pos zero)) (suc n) x is =
      round_ends r (λ more. While (Expr.Num (pos 0)) (suc n) x ∷ more) (Expr.Num (pos 0)) x s s t t (suc n) n refl (pos 0) (leads_first r (λ more. While (Expr.Num (pos 0)) (suc n) x ∷ more) s t h) (push_runs r (pos 0) s t h) refl
  while_zero (Expr.Num (pos (suc m))) (suc n) x is = absurd (false≢true is)
  while_zero (Expr.Num (negsuc m)) (suc n) x is = absurd (false≢true is)
  while_zero (Expr.Read v) (suc n) x is = absurd (false≢true is)
  while_zero (Expr.Elem a i) (suc n) x is = absurd (false≢true is)
  while_zero (Expr.Bin site a b) (suc n) x is = absurd (false≢true is)

  while_passed : (c : Expr) (n : ℕ) (x : Block) → (n == 0 || is_zero c) ≡ true → Runs r (stmt_items (Stmt.While c n x)) (λ st. st) (λ st. st) s t s t
  while_passed c n x is = by (either (n == 0) (is_zero c) is)
    where
      by : ((n == 0) ≡ true) ⊎ (is_zero c ≡ true) → Runs r (stmt_items (Stmt.While c n x)) (λ st. st) (λ st. st) s t s t
      by (inl none) = no_rounds c n x (eqb-true n 0 none)
      by (inr never) = while_zero c n x never

  repeat_passed : (n : ℕ) (x : Block) → (n == 0) ≡ true → Runs r (stmt_items (Stmt.Repeat n x)) (λ st. st) (λ st. st) s t s t
  repeat_passed n x is = turns_end r (λ more. Repeat n x ∷ more) x s s t t n (eqb-true n 0 is) (leads_first r (λ more. Repeat n x ∷ more) s t h)

module _ (r : Function) (a : List Item → List Item) (s0 s : Store) (t0 t : Counts) where
  -- the chosen branch stands in the place of the choice
  choice_passed : (z : ℤ) (x y rest chosen : Block) → Picks r x y chosen z → Leads r a (items (Stmt.If (Expr.Num z) x y then rest)) s0 t0 s t → Leads r a (items (append chosen rest)) s0 t0 s t
  choice_passed z x y rest chosen picks w = record {
    running = w.running;
    keeps = w.keeps;
    goes = λ c more st fr stands. subst (λ is. Stands r.linked.now c (standing r is st s fr) t) (sym (items-append chosen rest more))
        (picks.goes s t c (items rest more) st fr ((push_runs r z s t w.running).goes c (Choose x y ∷ items rest more) st fr (w.goes c more st fr stands)));
  }

  pub passes_lead : (b d : Block) → Passes b d → Leads r a (items b) s0 t0 s t → Leads r a (items d) s0 t0 s t
  passes_lead b d (here _) w = w
  passes_lead b d (no_round c n x rest _ is p) w = passes_lead rest d p (then_runs r {d = items rest} w (while_passed r s t w.running c n x is))
  passes_lead b d (no_turn n x rest _ is p) w = passes_lead rest d p (then_runs r {d = items rest} w (repeat_passed r s t w.running n x is))
  passes_lead b d (chooses z x y rest _ ne p) w = passes_lead (append x rest) d p (choice_passed z x y rest x (picks_yes r x y z ne) w)
  passes_lead b d (refuses x y rest _ p) w = passes_lead (append y rest) d p (choice_passed (pos 0) x y rest y (picks_no r x y (pos 0) refl) w)

-- a block without entries
pub passed_runs : (r : Function) (s : Store) (t : Counts) → IsRunning r s t → (x : Block) → Passes x done → Runs r (items x) (λ st. st) (λ st. st) s t s t
passed_runs r s t h x p = last_runs r (passes_lead r (items x) s s t t x done p (leads_first r (items x) s t h))

-- ---- turns of a block without entries

module _ (r : Function) (x : Block) (passed : Passes x done) (a : List Item → List Item) (s : Store) (t0 : Counts) where
  pub idle_turns : (n m k : ℕ) (t u : Counts) → k ≡ n + m → u ≡ with_steps t n → Leads r a (λ more. Repeat k x ∷ more) s t0 s t → Leads r a (λ more. Repeat m x ∷ more) s t0 s u
  idle_turns zero m k t u many is w =
      let same : u ≡ t = is ∙ ap (λ i. record t { steps = i }) (omega arith) in
      rw same (subst (λ i. Leads r a (λ more. Repeat i x ∷ more) s t0 s t) (omega (arith, many)) w)
  idle_turns (suc n) m k t u many is w =
      let t1 : Counts = with_steps t 1 in
      let running : IsRunning r s t1 = steps_running r s t 1 w.running in
      idle_turns n m (n + m) t1 u refl (is ∙ ap (λ i. record t { steps = i }) (omega arith))
      (turn_goes r a x s s t0 t k (n + m) (omega (arith, many)) w refl (passed_runs r s t1 running x passed))

  -- all of them
  pub idle_runs_all : (n : ℕ) (t u : Counts) → u ≡ with_steps t n → Leads r a (λ more. Repeat n x ∷ more) s t0 s t → Runs r a (λ st. st) (λ st. st) s t0 s u
  idle_runs_all n t u is w = turns_end r a x s s t0 u 0 refl (idle_turns n 0 n t u (omega arith) is w)

  -- or too many
  pub idle_exceeds : (n : ℕ) (t : Counts) → t.limit ≡ t0.limit → t0.limit ≤ t.steps + n → Leads r a (λ more. Repeat n x ∷ more) s t0 s t → Exceeds r a (λ st. st) s t0
  idle_exceeds n t limits over w = record {
    takes = λ c more st fr stands.
        let end = (idle_turns n 0 n t (with_steps t n) (omega arith) refl w).goes c more st fr stands in
        record { n = end.n; steps = let e = end.steps in omega (arith, e, over) };
  }

-- ---- a block by its table

-- the run that stood before a block stands before what is left of it, of which that is the table
pub record Walks (r : Function) (text : Block) (live : List Live) (s : Store) (t : Counts) (s' : Store) (t' : Counts) : Type 0 where
  pub left : Left text live
  pub leads : Leads r (items text) (items left.rest) s t s' t'

module _ (r : Function) (text : Block) (live : List Live) (s0 : Store) (t0 : Counts) where
  pub walk_start : entries live ≡ table_of text → IsRunning r s0 t0 → Walks r text live s0 t0 s0 t0
  walk_start is h = record { left = left_whole text live is; leads = leads_first r (items text) s0 t0 h }

  module _ (s : Store) (t : Counts) (at : ℕ) (w : Walks r text (drop at live) s0 t0 s t) where
    pub walk_end : length live ≤ at → Runs r (items text) (λ st. st) (λ st. st) s0 t0 s t
    walk_end over =
        let none : length (table_of w.left.rest) ≡ 0 = ap length (sym w.left.table) ∙ (entries_long (drop at live) ∙ (length-drop at live ∙ omega (arith, over))) in
        last_runs r (passes_lead r (items text) s0 s t0 t w.left.rest done (none_left w.left.rest none) w.leads)

    module _ (d : Live) (below : at < length live) where
      -- the run stands before the entry's statement
      there : Leads r (items text) (λ more. stmt_items (stmt_of (get_or live at d).what.now) (items (behind_at text live at d below w.left) more)) s0 t0 s t
      there = passes_lead r (items text) s0 s t0 t w.left.rest (stmt_of (get_or live at d).what.now then behind_at text live at d below w.left) (passes_at text live at d below w.left) w.leads

      pub walk_goes : {s' : Store} {t' : Counts} (end : ℕ) → end ≡ at + 1 + (get_or live at d).first + (get_or live at d).second → Runs r (stmt_items (stmt_of (get_or live at d).what.now)) (λ st. st) (λ st. st) s t s' t' → Walks r text (drop end live) s0 t0 s' t'
      walk_goes end is y = record { left = left_at text live at d below w.left end is; leads = then_runs r {d = items (behind_at text live at d below w.left)} there y }

      pub walk_stops : Exceeds r (stmt_items (stmt_of (get_or live at d).what.now)) (λ st. st) s t → Exceeds r (items text) (λ st. st) s0 t0
      walk_stops y = then_exceeds r (items (behind_at text live at d below w.left)) there y
