-- What takes no step is passed over: the trial that stands before it stands behind it.
use Rattle.std.proofs.Common.{◌≡◌, ℕ, zero, suc, ◌+◌, ◌<◌, ◌≤◌, ◌==◌, ◌||◌, ℤ, pos, negsuc, true, List, ◌∷◌, drop, get_or, length, inl, inr, refl, sym, ap, subst, ◌∙◌, arith}
use Rattle.std.specs.Prelude.{◌⊎◌}
use Rattle.std.proofs.lemmas.List.{length-drop}
use Rattle.std.proofs.lemmas.Bool.{eqb-true, false≢true}
use Rattle.rand_pcg.specs.Lcg.{Lcg}
use Rattle.rely_kernel.specs.Machine.{Item, Choose, Repeat, While, items, stmt_items}
use Rattle.rely_kernel.specs.Text.{Expr, Stmt, Block, done, ◌then◌, append, stmt_of}
use Rattle.rely_kernel.proofs.Skip.{items-append}
use Rattle.rely_machine.specs.declared.live.Live.{Live}
use Rattle.rely_machine.specs.Table.{entries, is_zero, table_of}
use Rattle.rely_machine.proofs.Tables.{Left, Passes, behind_at, chooses, either, entries_long, here, left_at, left_whole, no_round, no_turn, none_left, passes_at, refuses}
use Rattle.rely_faults.specs.declared.running.Running.{Running}
use Rattle.rely_faults.specs.Going.{Exceeds, IsRunning, Point, Runs, Stands, standing}
use Rattle.rely_faults.proofs.Looping.{Leads, Picks, last_runs, leads_first, picks_no, picks_yes, round_ends, rounds_end, then_exceeds, then_runs, turns_end}
use Rattle.rely_faults.proofs.Walking.{push_runs}

-- ---- loops without a turn, and choices by a number

module _ (r : Running) (u : Point) (h : IsRunning r u.store) where
  no_rounds : (c : Expr) (n : ℕ) (x : Block) → n ≡ 0 → Runs r (stmt_items (Stmt.While c n x)) (λ st. st) (λ st. st) u u
  no_rounds c n x is = rounds_end r (λ more. While c n x ∷ more) c x u u n is (leads_first r (λ more. While c n x ∷ more) u h)

  while_zero : (c : Expr) (n : ℕ) (x : Block) → is_zero c ≡ true → Runs r (stmt_items (Stmt.While c n x)) (λ st. st) (λ st. st) u u
  while_zero c zero x is = no_rounds c 0 x refl
  while_zero (Expr.Num (pos zero)) (suc n) x is =
      round_ends r (λ more. While (Expr.Num (pos 0)) (suc n) x ∷ more) (Expr.Num (pos 0)) x u u (suc n) n refl (pos 0) (leads_first r (λ more. While (Expr.Num (pos 0)) (suc n) x ∷ more) u h) (push_runs r (pos 0) u h) refl
  while_zero (Expr.Num (pos (suc m))) (suc n) x is = absurd (false≢true is)
  while_zero (Expr.Num (negsuc m)) (suc n) x is = absurd (false≢true is)
  while_zero (Expr.Read v) (suc n) x is = absurd (false≢true is)
  while_zero (Expr.Elem a i) (suc n) x is = absurd (false≢true is)
  while_zero (Expr.Bin site a b) (suc n) x is = absurd (false≢true is)

  while_passed : (c : Expr) (n : ℕ) (x : Block) → (n == 0 || is_zero c) ≡ true → Runs r (stmt_items (Stmt.While c n x)) (λ st. st) (λ st. st) u u
  while_passed c n x is = by (either (n == 0) (is_zero c) is)
    where
      by : ((n == 0) ≡ true) ⊎ (is_zero c ≡ true) → Runs r (stmt_items (Stmt.While c n x)) (λ st. st) (λ st. st) u u
      by (inl none) = no_rounds c n x (eqb-true n 0 none)
      by (inr never) = while_zero c n x never

  repeat_passed : (n : ℕ) (x : Block) → (n == 0) ≡ true → Runs r (stmt_items (Stmt.Repeat n x)) (λ st. st) (λ st. st) u u
  repeat_passed n x is = turns_end r (λ more. Repeat n x ∷ more) x u u n (eqb-true n 0 is) (leads_first r (λ more. Repeat n x ∷ more) u h)

module _ (r : Running) (a : List Item → List Item) (u v : Point) where
  -- the chosen branch stands in the place of the choice
  choice_passed : (z : ℤ) (x y rest chosen : Block) → Picks r x y chosen z → Leads r a (items (Stmt.If (Expr.Num z) x y then rest)) u v → Leads r a (items (append chosen rest)) u v
  choice_passed z x y rest chosen picks w = record {
    running = w.running;
    limit = w.limit;
    goes = λ t more st stands. subst (λ is. Stands r t (standing is st v.store) v) (sym (items-append chosen rest more))
        (picks.goes v t (items rest more) st ((push_runs r z v w.running).goes t (Choose x y ∷ items rest more) st (w.goes t more st stands)));
  }

  passes_lead : (b d : Block) → Passes b d → Leads r a (items b) u v → Leads r a (items d) u v
  passes_lead b d (here _) w = w
  passes_lead b d (no_round c n x rest _ is p) w = passes_lead rest d p (then_runs r {d = items rest} w (while_passed r v w.running c n x is))
  passes_lead b d (no_turn n x rest _ is p) w = passes_lead rest d p (then_runs r {d = items rest} w (repeat_passed r v w.running n x is))
  passes_lead b d (chooses z x y rest _ ne p) w = passes_lead (append x rest) d p (choice_passed z x y rest x (picks_yes r x y z ne) w)
  passes_lead b d (refuses x y rest _ p) w = passes_lead (append y rest) d p (choice_passed (pos 0) x y rest y (picks_no r x y (pos 0) refl) w)

-- ---- a block by its table

-- the trial that stood before a block stands before what is left of it, of which that is the table
pub record Walks (r : Running) (text : Block) (live : List Live) (u v : Point) : Type 0 where
  pub left : Left text live
  pub leads : Leads r (items text) (items left.rest) u v

module _ (r : Running) (text : Block) (live : List Live) (u : Point) where
  pub walk_start : entries live ≡ table_of text → IsRunning r u.store → Walks r text live u u
  walk_start is h = record { left = left_whole text live is; leads = leads_first r (items text) u h }

  module _ (v : Point) (at : ℕ) (w : Walks r text (drop at live) u v) where
    pub walk_end : length live ≤ at → Runs r (items text) (λ st. st) (λ st. st) u v
    walk_end over =
        let none : length (table_of w.left.rest) ≡ 0 = ap length (sym w.left.table) ∙ (entries_long (drop at live) ∙ (length-drop at live ∙ omega (arith, over))) in
        last_runs r (passes_lead r (items text) u v w.left.rest done (none_left w.left.rest none) w.leads)

    module _ (d : Live) (below : at < length live) where
      -- the trial stands before the entry's statement
      there : Leads r (items text) (λ more. stmt_items (stmt_of (get_or live at d).what.now) (items (behind_at text live at d below w.left) more)) u v
      there = passes_lead r (items text) u v w.left.rest (stmt_of (get_or live at d).what.now then behind_at text live at d below w.left) (passes_at text live at d below w.left) w.leads

      pub walk_goes : {v' : Point} (end : ℕ) → end ≡ at + 1 + (get_or live at d).first + (get_or live at d).second → Runs r (stmt_items (stmt_of (get_or live at d).what.now)) (λ st. st) (λ st. st) v v' → Walks r text (drop end live) u v'
      walk_goes end is y = record { left = left_at text live at d below w.left end is; leads = then_runs r {d = items (behind_at text live at d below w.left)} there y }

      pub walk_stops : {g : Lcg} → Exceeds r (stmt_items (stmt_of (get_or live at d).what.now)) (λ st. st) v g → Exceeds r (items text) (λ st. st) u g
      walk_stops y = then_exceeds r (items (behind_at text live at d below w.left)) there y
