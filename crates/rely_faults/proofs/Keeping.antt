-- What a step leaves is numbers of 64 bits in a store of the kernel's shape, and items that keep them so.
use Rattle.std.proofs.Common.{◌≡◌, ℕ, zero, suc, ℤ, pos, negsuc, Bool, true, false, List, [], ◌∷◌, drop, Some, subst, arith}
use Rattle.std.specs.Prelude.{IsTrue, if◌then◌else◌, nat_lt, ◌==◌, ◌%◌}
use Rattle.std.specs.Int.{w64}
use Rattle.std.specs.List.{AllByRecursion}
use borrow.Author.Gap.{read_sfits}
use Rattle.rand_pcg.specs.Lcg.{Lcg}
use Rattle.rand_pcg.specs.Pcg.{pcg64}
use Rattle.rely_num.specs.Bounds.{S}
use Rattle.rely_kernel.specs.declared.kernel.Kernel.{Kernel}
use Rattle.rely_kernel.specs.Bound.{HasShape}
use Rattle.rely_kernel.specs.Machine.{Config, Item, Push, Read, Elem, Op, Write, WriteElem, Result, Choose, While, Repeat, Enter, Call, Leave, act, cell, chosen, expr_items, items, operator, right_by, stmt_items, top}
use Rattle.rely_kernel.specs.Text.{Expr, Stmt, Block, done, ◌then◌, append}
use Rattle.rely_kernel.specs.Valid.{ExprFits, is_scalar}
use Rattle.rely_kernel.specs.Running.{All-fit, AllFine, Fine}
use Rattle.rely_kernel.proofs.Fine.{shape_write}
use Rattle.rely_kernel.proofs.Numbers.{Fits, fits_at, fits_operated, fits_read}
use Rattle.rely_kernel.proofs.Shape.{cell_fits, shape_give, shape_put, top_fits}
use Rattle.rely_faults.specs.Trial.{draw, no_word, one_word, two_words, wrong_by}

-- ---- a number that is drawn

some_is : {X : Type 0} {x y : X} → Some x ≡ Some y → x ≡ y
some_is e = cc

pub drawn_fits : (p : ℕ) (g : Lcg) (z : ℤ) → (draw p g).wrong ≡ Some z → Fits z
unfolding draw
drawn_fits p g z is = by_tests (p == S) (nat_lt ((pcg64 g).0 % S) p) is
  where
    by_tests : (a b : Bool) → ((if a then no_word else if b then one_word else two_words) g).wrong ≡ Some z → Fits z
    by_tests true b e = absurd (cc)
    by_tests false true e = absurd (cc)
    by_tests false false e = subst Fits (some_is e) (read_sfits w64 (pcg64 (pcg64 g).1).0)

-- ---- numbers on the stack

fit_drop : (n : ℕ) (zs : List ℤ) → All-fit zs → All-fit (drop n zs)
fit_drop zero zs h = h
fit_drop (suc n) [] h = tt
fit_drop (suc n) (z ∷ zs) h = fit_drop n zs h.1

fit_top : (zs : List ℤ) → All-fit zs → Fits (top zs)
fit_top zs h = fits_at zs 0 h

-- ---- what is still to do

module _ (k : Kernel) where
  abbrev pub fs : List Kernel
  fs = k ∷ []

  -- an item that keeps numbers in range, and calls nothing
  pub ItemFine : Item → Type 0
  ItemFine (Push z) = Fits z
  ItemFine (Write v) = IsTrue (is_scalar k v)
  ItemFine (Choose x y) = AllFine fs 0 k x × AllFine fs 0 k y
  ItemFine (While e n x) = ExprFits k e × AllFine fs 0 k x
  ItemFine (Repeat n x) = AllFine fs 0 k x
  ItemFine (Call place) = ⊥
  ItemFine Leave = ⊥
  ItemFine _ = Unit {0}

  abbrev pub AreFine : List Item → Type 0
  AreFine = AllByRecursion ItemFine

  expr_fine : (e : Expr) (more : List Item) → ExprFits k e → AreFine more → AreFine (expr_items e more)
  unfolding ItemFine
  expr_fine (Expr.Num z) more h m = (h, m)
  expr_fine (Expr.Read v) more h m = (tt, m)
  expr_fine (Expr.Elem a i) more h m = expr_fine i (Elem a ∷ more) h.1 (tt, m)
  expr_fine (Expr.Bin site x y) more h m = expr_fine x (expr_items y (Op site ∷ more)) h.1 (expr_fine y (Op site ∷ more) h.2 (tt, m))

  stmt_fine : (x : Stmt) (more : List Item) → Fine fs 0 k x → AreFine more → AreFine (stmt_items x more)
  unfolding ItemFine
  stmt_fine (Stmt.Set v e) more h m = expr_fine e (Write v ∷ more) h.1 (h.0, m)
  stmt_fine (Stmt.SetElem a i e) more h m = expr_fine i (expr_items e (WriteElem a ∷ more)) h.1 (expr_fine e (WriteElem a ∷ more) h.2 (tt, m))
  stmt_fine (Stmt.If c x y) more h m = expr_fine c (Choose x y ∷ more) h.0 ((h.1, h.2), m)
  stmt_fine (Stmt.While c n x) more h m = (h, m)
  stmt_fine (Stmt.Repeat n x) more h m = (h, m)
  stmt_fine (Stmt.Result e) more h m = expr_fine e (Result ∷ more) h (tt, m)
  stmt_fine (Stmt.Call v place es) more h m = let below = h.1.2.earlier in absurd (omega (arith, below))
  stmt_fine Stmt.Enter more h m = (tt, m)

  pub block_fine : (x : Block) (more : List Item) → AllFine fs 0 k x → AreFine more → AreFine (items x more)
  block_fine done more h m = m
  block_fine (x then rest) more h m = stmt_fine x (items rest more) h.0 (block_fine rest more h.1 m)

  append_fine : (x y : Block) → AllFine fs 0 k x → AllFine fs 0 k y → AllFine fs 0 k (append x y)
  append_fine done y h j = j
  append_fine (x then rest) y h j = (h.0, append_fine rest y h.1 j)

  -- ---- configurations

  pub record Sound (c : Config) : Type 0 where
    pub items : AreFine c.items
    pub stack : All-fit c.stack
    pub shape : HasShape k c.store

  chosen_fine : (z : ℤ) (x y : Block) → AllFine fs 0 k x → AllFine fs 0 k y → AllFine fs 0 k (chosen z x y)
  chosen_fine (pos zero) x y h j = j
  chosen_fine (pos (suc n)) x y h j = h
  chosen_fine (negsuc n) x y h j = h

  act_sound : (i : Item) (c : Config) → ItemFine i → Sound c → Sound (act fs i c)
  unfolding ItemFine
  act_sound (Push z) c h s = record { items = s.items; stack = (h, s.stack); shape = s.shape }
  act_sound (Read v) c h s = record { items = s.items; stack = (top_fits k c.store v s.shape, s.stack); shape = s.shape }
  act_sound (Elem a) c h s = record { items = s.items; stack = (fits_read (cell c.store a) (top c.stack) (cell_fits k c.store a s.shape), fit_drop 1 c.stack s.stack); shape = s.shape }
  act_sound (Op site) c h s = record {
    items = s.items;
    stack = (fits_operated (operator fs c.function site) (top (drop 1 c.stack)) (top c.stack) (fit_top (drop 1 c.stack) (fit_drop 1 c.stack s.stack)), fit_drop 2 c.stack s.stack);
    shape = s.shape;
  }
  act_sound (Write v) c h s = record { items = s.items; stack = fit_drop 1 c.stack s.stack; shape = shape_put k c.store v (top c.stack) s.shape h (fit_top c.stack s.stack) }
  act_sound (WriteElem a) c h s = record { items = s.items; stack = fit_drop 2 c.stack s.stack; shape = shape_write k c.store a (top (drop 1 c.stack)) (top c.stack) s.shape (fit_top c.stack s.stack) }
  act_sound Result c h s = record { items = s.items; stack = fit_drop 1 c.stack s.stack; shape = shape_give k c.store (top c.stack) s.shape (fit_top c.stack s.stack) }
  act_sound (Choose x y) c h s = record { items = block_fine (chosen (top c.stack) x y) c.items (chosen_fine (top c.stack) x y h.0 h.1) s.items; stack = fit_drop 1 c.stack s.stack; shape = s.shape }
  act_sound (While e zero x) c h s = s
  act_sound (While e (suc n) x) c h s = record {
    items = expr_fine e (Choose (Stmt.Enter then append x (Stmt.While e n x then done)) done ∷ c.items) h.0 (((tt, append_fine x (Stmt.While e n x then done) h.1 (h, tt)), tt), s.items);
    stack = s.stack;
    shape = s.shape;
  }
  act_sound (Repeat zero x) c h s = s
  act_sound (Repeat (suc n) x) c h s = record { items = (tt, block_fine x (Repeat n x ∷ c.items) h (h, s.items)); stack = s.stack; shape = s.shape }
  act_sound Enter c h s = s
  act_sound (Call place) c h s = absurd h
  act_sound Leave c h s = absurd h

  module _ (c : Config) (stack : All-fit c.stack) (shape : HasShape k c.store) where
    pub right_sound_by : (is : List Item) → AreFine is → AreFine c.items → Sound (right_by fs is c)
    right_sound_by [] h j = record { items = j; stack = stack; shape = shape }
    right_sound_by (i ∷ rest) h j = act_sound i (record c { items = rest }) h.0 (record { items = h.1; stack = stack; shape = shape })

    -- a wrong number in place of the right one
    module _ (z : ℤ) (fits : Fits z) where
      put_top : (d : Config) → Sound d → Sound (record d { stack = z ∷ drop 1 d.stack })
      put_top d s = record { items = s.items; stack = (fits, fit_drop 1 d.stack s.stack); shape = s.shape }

      pub wrong_sound_by : (is : List Item) → AreFine is → (d : Config) → Sound d → Sound (wrong_by is z c d)
      unfolding ItemFine
      wrong_sound_by [] h d s = s
      wrong_sound_by (Push n ∷ rest) h d s = s
      wrong_sound_by (Read v ∷ rest) h d s = put_top d s
      wrong_sound_by (Elem a ∷ rest) h d s = put_top d s
      wrong_sound_by (Op site ∷ rest) h d s = put_top d s
      wrong_sound_by (Write v ∷ rest) h d s = record { items = s.items; stack = s.stack; shape = shape_put k c.store v z shape h.0 fits }
      wrong_sound_by (WriteElem a ∷ rest) h d s = record { items = s.items; stack = s.stack; shape = shape_write k c.store a (top (drop 1 c.stack)) z shape fits }
      wrong_sound_by (Result ∷ rest) h d s = s
      wrong_sound_by (Choose x y ∷ rest) h d s = s
      wrong_sound_by (While e n x ∷ rest) h d s = s
      wrong_sound_by (Repeat n x ∷ rest) h d s = s
      wrong_sound_by (Enter ∷ rest) h d s = s
      wrong_sound_by (Call place ∷ rest) h d s = s
      wrong_sound_by (Leave ∷ rest) h d s = s
