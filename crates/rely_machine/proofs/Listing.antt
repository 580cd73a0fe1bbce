-- Lists of arguments and statements, one after another.
use Rattle.std.proofs.Common.{◌≡◌, ℕ, zero, suc, ◌+◌, ℤ, List, [], ◌∷◌, ◌++◌, length, take, drop, Some, refl, sym, ap, subst, ◌∙◌, arith}
use Rattle.std.specs.Prelude.{slice_get}
use Rattle.std.proofs.lemmas.List.{length-append}
use Rattle.rely_kernel.specs.declared.kernel.Ex.{Ex}
use Rattle.rely_kernel.specs.declared.kernel.Kernel.{Kernel}
use Rattle.rely_kernel.specs.declared.setting.Store.{Store}
use Rattle.rely_kernel.specs.Machine.{Item, argument_items, expr_items}
use Rattle.rely_kernel.specs.Text.{expr_of, exprs_of}
use Rattle.rely_kernel.specs.Valid.{AllFit, ExprFits}
use Rattle.rely_kernel.specs.Running.{All-fit, pushed}
use Rattle.rely_kernel.proofs.Numbers.{Fits}
use Rattle.rely_machine.specs.declared.function.Function.{Function}
use Rattle.rely_machine.specs.Going.{Counts, Runs, Exceeds, Stands, standing}
use Rattle.rely_machine.proofs.Walking.{and_then, over, exceeds_first, exceeds_then, exceeds_over}

module _ (r : Function) where
  -- the same items, written otherwise
  pub same_items : {a b : List Item → List Item} {f g : List ℤ → List ℤ} {s t s' t' : _} → ((more : List Item) → a more ≡ b more) → Runs r a f g s t s' t' → Runs r b f g s t s' t'
  same_items {a} {b} {f} {g} {s} {t} e x = record {
    running = x.running;
    keeps = x.keeps;
    goes = λ c more st fr stands. x.goes c more st fr (subst (λ is. Stands r.linked.now c (standing r is (f st) s fr) t) (sym (e more)) stands);
  }

  -- the same stack
  pub same_stack : {a : List Item → List Item} {f g h : List ℤ → List ℤ} {s t s' t' : _} → ((st : List ℤ) → g st ≡ h st) → Runs r a f g s t s' t' → Runs r a f h s t s' t'
  same_stack {a} {f} {g} {h} {s} {t} {s'} {t'} e x = record {
    running = x.running;
    keeps = x.keeps;
    goes = λ c more st fr stands. subst (λ stack. Stands r.linked.now c (standing r more stack s' fr) t') (e st) (x.goes c more st fr stands);
  }

  pub same_exceeds : {a b : List Item → List Item} {f : List ℤ → List ℤ} {s t : _} → ((more : List Item) → a more ≡ b more) → Exceeds r a f s t → Exceeds r b f s t
  same_exceeds {a} {b} {f} {s} {t} e x = record { takes = λ c more st fr stands. x.takes c more st fr (subst (λ is. Stands r.linked.now c (standing r is (f st) s fr) t) (sym (e more)) stands) }

next_is : (i : ℕ) → suc i ≡ i + 1
next_is i = omega arith

pub fit_more : (zs : List ℤ) (z : ℤ) → All-fit zs → Fits z → All-fit (zs ++ z ∷ [])
fit_more [] z h k = (k, tt)
fit_more (y ∷ zs) z h k = (h.0, fit_more zs z h.1 k)

some_is : {X : Type 0} {x y : X} → Some x ≡ Some y → x ≡ y
some_is e = cc

-- ---- arguments

args_more : (es : List Ex) (i : ℕ) (e : Ex) → slice_get es i ≡ Some e → (more : List Item) → argument_items (exprs_of (take i es)) (expr_items (expr_of e) more) ≡ argument_items (exprs_of (take (suc i) es)) more
args_more [] i e is more = absurd (cc)
args_more (x ∷ es) zero e is more = ap (λ y. expr_items (expr_of y) more) (sym (some_is is))
args_more (x ∷ es) (suc i) e is more = ap (expr_items (expr_of x)) (args_more es i e is more)

args_at : (es : List Ex) (i : ℕ) (e : Ex) → slice_get es i ≡ Some e → (more : List Item)
    → argument_items (exprs_of (take i es)) (expr_items (expr_of e) (argument_items (exprs_of (drop (suc i) es)) more)) ≡ argument_items (exprs_of es) more
args_at [] i e is more = absurd (cc)
args_at (x ∷ es) zero e is more = ap (λ y. expr_items (expr_of y) (argument_items (exprs_of es) more)) (sym (some_is is))
args_at (x ∷ es) (suc i) e is more = ap (expr_items (expr_of x)) (args_at es i e is more)

pushed_more : (zs : List ℤ) (z : ℤ) (st : List ℤ) → z ∷ pushed zs st ≡ pushed (zs ++ z ∷ []) st
pushed_more [] z st = refl
pushed_more (y ∷ zs) z st = pushed_more zs z (y ∷ st)

pub fit_at : (k : Kernel) (es : List Ex) (i : ℕ) (e : Ex) → slice_get es i ≡ Some e → AllFit k (exprs_of es) → ExprFits k (expr_of e)
fit_at k [] i e is h = absurd (cc)
fit_at k (x ∷ es) zero e is h = subst (λ y. ExprFits k (expr_of y)) (some_is is) h.0
fit_at k (x ∷ es) (suc i) e is h = fit_at k es i e is h.1

module _ (r : Function) (s : Store) (t0 t : Counts) (es : List Ex) (i : ℕ) (e : Ex) (is : slice_get es i ≡ Some e) (zs : List ℤ)
    (h : Runs r (argument_items (exprs_of (take i es))) (λ st. st) (pushed zs) s t0 s t) where
  pub arg_goes : {u : Counts} (z : ℤ) → Runs r (expr_items (expr_of e)) (λ st. st) (λ st. z ∷ st) s t s u → Runs r (argument_items (exprs_of (take (i + 1) es))) (λ st. st) (pushed (zs ++ z ∷ [])) s t0 s u
  arg_goes {u} z x = subst (λ n. Runs r (argument_items (exprs_of (take n es))) (λ st. st) (pushed (zs ++ z ∷ [])) s t0 s u) (next_is i)
      (same_stack r (pushed_more zs z) (same_items r (args_more es i e is) (and_then r h (over r (pushed zs) x))))

  pub arg_next : {u : Counts} {new : List ℤ} {w : ℤ} (z : ℤ) → new ≡ zs ++ w ∷ [] → w ≡ z → Runs r (expr_items (expr_of e)) (λ st. st) (λ st. z ∷ st) s t s u → length zs ≡ i → All-fit zs → Fits z
      → Runs r (argument_items (exprs_of (take (i + 1) es))) (λ st. st) (pushed new) s t0 s u × (length new ≡ i + 1) × All-fit new
  arg_next z is_new same x long fits number_fits = rw (is_new, same) (arg_goes z x, length-append zs (z ∷ []) ∙ ap (λ n. n + 1) long, fit_more zs z fits number_fits)

  pub arg_stops : Exceeds r (expr_items (expr_of e)) (λ st. st) s t → Exceeds r (argument_items (exprs_of es)) (λ st. st) s t0
  arg_stops x = same_exceeds r (args_at es i e is) (exceeds_then r h (exceeds_over r (pushed zs) (exceeds_first r (argument_items (exprs_of (drop (suc i) es))) x)))

pub exprs_long : (es : List Ex) → length (exprs_of es) ≡ length es
exprs_long [] = refl
exprs_long (e ∷ es) = ap suc (exprs_long es)
