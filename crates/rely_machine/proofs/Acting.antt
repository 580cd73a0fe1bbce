-- What an assignment and a result take.
use Rattle.std.proofs.Common.{◌≡◌, ℕ, ◌+◌, ◌<◌, ◌≤◌, ℤ, pos, [], ◌∷◌, length, map, get_or, arith, IsTrue}
use Rattle.std.specs.Prelude.{FitsSigned}
use Rattle.std.specs.Int.{w64}
use Rattle.rely_kernel.specs.declared.setting.Store.{Store}
use Rattle.rely_kernel.specs.declared.label.Label.TheVariants as label
use Rattle.rely_kernel.specs.Bound.{HasShape}
use Rattle.rely_kernel.specs.Labels.{number}
use Rattle.rely_kernel.specs.Machine.{Write, WriteElem, Result, functions, cell, with_cell, expr_items, stmt_items}
use Rattle.rely_kernel.specs.Meaning.{written_at}
use Rattle.rely_kernel.specs.Text.{Expr, Stmt}
use Rattle.rely_kernel.specs.Valid.{ExprFits, is_scalar, is_array}
use Rattle.rely_kernel.proofs.Fine.{does_shape}
use Rattle.rely_kernel.proofs.Numbers.{fits_zero}
use Rattle.rely_kernel.proofs.Shape.{scalar_below, array_below, shape_put, shape_give}
use Rattle.rely_machine.specs.declared.function.Function.{Function}
use Rattle.rely_machine.specs.Going.{Counts, IsRunning, Runs, Exceeds, with_use}
use Rattle.rely_machine.proofs.Reading.{label_below}
use Rattle.rely_machine.proofs.Walking.{write_runs, write_elem_runs, result_runs, write_exceeds, write_elem_exceeds, and_then, over, exceeds_first, exceeds_then, exceeds_over}

module _ (r : Function) (s : Store) (t : Counts) where
  -- a number put into an array
  array_shape : (a : ℕ) (i z : ℤ) → HasShape r.kernel.now s → IsTrue (is_array r.kernel.now a) → FitsSigned w64 i → FitsSigned w64 z → HasShape r.kernel.now (with_cell s a (written_at (cell s a) i z))
  array_shape a i z h array i_fits z_fits =
      does_shape (functions r.linked.now) r.at r.kernel.now (λ place zs. pos 0) (λ place n at zs long fit. fits_zero) (Stmt.SetElem a (Expr.Num i) (Expr.Num z)) (array, i_fits, z_fits) s h

  -- ---- a scalar

  module _ (v : ℕ) (e : Expr) (fits : IsTrue (is_scalar r.kernel.now v) × ExprFits r.kernel.now e) where
    pub set_label : (t1 : Counts) (at n : ℕ) → IsRunning r s t1 → at ≡ r.at → n ≡ number r.kernel.now (label.Write v) → n < get_or (map length t1.uses) at 0
    set_label t1 at n h here there = rw (here, there) (label_below r s t1 h (number r.kernel.now (label.Write v)) (let b = scalar_below r.kernel.now v fits.0 in omega (arith, b)))

    pub set_goes : {s' : Store} {t1 u : Counts} {w : ℤ} (z : ℤ) (at n : ℕ) → Runs r (expr_items e) (λ st. st) (λ st. z ∷ st) s t s t1 → s' ≡ with_cell s v (w ∷ []) → w ≡ z → FitsSigned w64 z → u ≡ with_use t1 at n → at ≡ r.at
        → n ≡ number r.kernel.now (label.Write v) → Runs r (stmt_items (Stmt.Set v e)) (λ st. st) (λ st. st) s t s' u
    set_goes {s'} {t1} z at n x wrote same number_fits used here there =
        rw (wrote, same, used, here, there) (and_then r x (write_runs r v z s t1 (scalar_below r.kernel.now v fits.0) (shape_put r.kernel.now s v z x.running.shape fits.0 number_fits) x.running))

    pub set_stops_first : Exceeds r (expr_items e) (λ st. st) s t → Exceeds r (stmt_items (Stmt.Set v e)) (λ st. st) s t
    set_stops_first x = exceeds_first r (λ more. Write v ∷ more) x

    pub set_stops : {t1 : Counts} (z : ℤ) → Runs r (expr_items e) (λ st. st) (λ st. z ∷ st) s t s t1 → t1.limit ≤ t1.steps + 1 → Exceeds r (stmt_items (Stmt.Set v e)) (λ st. st) s t
    set_stops {t1} z x many = exceeds_then r x (write_exceeds r (λ st. z ∷ st) s t1 many v)

  -- ---- an element

  module _ (a : ℕ) (i e : Expr) (fits : IsTrue (is_array r.kernel.now a) × ExprFits r.kernel.now i × ExprFits r.kernel.now e) where
    pub element_label : (t1 : Counts) (at n : ℕ) → IsRunning r s t1 → at ≡ r.at → n ≡ number r.kernel.now (label.Write a) → n < get_or (map length t1.uses) at 0
    element_label t1 at n h here there = rw (here, there) (label_below r s t1 h (number r.kernel.now (label.Write a)) (let b = array_below r.kernel.now a fits.0 in omega (arith, b)))

    pub element_goes : {s' : Store} {t1 t2 u : Counts} {v w : ℤ} (y z : ℤ) (at n : ℕ) → Runs r (expr_items i) (λ st. st) (λ st. y ∷ st) s t s t1 → Runs r (expr_items e) (λ st. st) (λ st. z ∷ st) s t1 s t2
        → s' ≡ with_cell s a (written_at (cell s a) v w) → v ≡ y → w ≡ z → FitsSigned w64 y → FitsSigned w64 z → u ≡ with_use t2 at n → at ≡ r.at → n ≡ number r.kernel.now (label.Write a)
        → Runs r (stmt_items (Stmt.SetElem a i e)) (λ st. st) (λ st. st) s t s' u
    element_goes {s'} {t1} {t2} y z at n index x wrote same_index same index_fits number_fits used here there =
        rw (wrote, same_index, same, used, here, there) (and_then r index (and_then r (over r (λ st. y ∷ st) x) (write_elem_runs r a y z s t2 (array_below r.kernel.now a fits.0)
        (array_shape a y z x.running.shape fits.0 index_fits number_fits) x.running)))

    pub element_stops_first : Exceeds r (expr_items i) (λ st. st) s t → Exceeds r (stmt_items (Stmt.SetElem a i e)) (λ st. st) s t
    element_stops_first x = exceeds_first r (λ more. expr_items e (WriteElem a ∷ more)) x

    pub element_stops_then : {t1 : Counts} (y : ℤ) → Runs r (expr_items i) (λ st. st) (λ st. y ∷ st) s t s t1 → Exceeds r (expr_items e) (λ st. st) s t1 → Exceeds r (stmt_items (Stmt.SetElem a i e)) (λ st. st) s t
    element_stops_then y index h = exceeds_then r index (exceeds_over r (λ st. y ∷ st) (exceeds_first r (λ more. WriteElem a ∷ more) h))

    pub element_stops : {t1 t2 : Counts} (y z : ℤ) → Runs r (expr_items i) (λ st. st) (λ st. y ∷ st) s t s t1 → Runs r (expr_items e) (λ st. st) (λ st. z ∷ st) s t1 s t2 → t2.limit ≤ t2.steps + 1
        → Exceeds r (stmt_items (Stmt.SetElem a i e)) (λ st. st) s t
    element_stops {t1} {t2} y z index x many =
        exceeds_then r index (exceeds_then r (over r (λ st. y ∷ st) x) (write_elem_exceeds r (λ st. z ∷ y ∷ st) s t2 many a))

  -- ---- the result

  pub give_goes : {s' : Store} {t1 : Counts} {w : ℤ} (e : Expr) (z : ℤ) → Runs r (expr_items e) (λ st. st) (λ st. z ∷ st) s t s t1 → s' ≡ record s { result = w } → w ≡ z → FitsSigned w64 z
      → Runs r (stmt_items (Stmt.Result e)) (λ st. st) (λ st. st) s t s' t1
  give_goes {s'} {t1} e z x gave same number_fits = rw (gave, same) (and_then r x (result_runs r z s t1 (shape_give r.kernel.now s z x.running.shape number_fits) x.running))

  pub give_stops : (e : Expr) → Exceeds r (expr_items e) (λ st. st) s t → Exceeds r (stmt_items (Stmt.Result e)) (λ st. st) s t
  give_stops e x = exceeds_first r (λ more. Result ∷ more) x
