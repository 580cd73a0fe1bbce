-- What the value of an expression takes, by the form of the expression.
use Rattle.std.proofs.Common.{◌≡◌, ℕ, ◌<◌, ◌≤◌, ℤ, ◌∷◌, Some, ap, subst, arith, IsTrue}
use Rattle.std.specs.Prelude.{length, map, get_or, slice_get, option_map, ◌+◌}
use Rattle.rely_num.specs.declared.op.Op.{Op as Operator}
use Rattle.rely_kernel.specs.declared.setting.Store.{Store}
use Rattle.rely_kernel.specs.declared.label.Label.TheVariants as label
use Rattle.rely_kernel.specs.Labels.{number}
use Rattle.rely_kernel.specs.Machine.{Elem, Op, functions, cell, top, operated, operator, expr_items}
use Rattle.rely_kernel.specs.Meaning.{read_at, value}
use Rattle.rely_kernel.specs.Text.{Expr}
use Rattle.rely_kernel.specs.Valid.{ExprFits, is_array}
use Rattle.rely_kernel.proofs.Shape.{scalar_below, array_below}
use Rattle.rely_machine.specs.declared.function.Function.{Function}
use Rattle.rely_machine.specs.Going.{Counts, IsRunning, Runs, Exceeds, with_use}
use Rattle.rely_machine.proofs.Reading.{label_below}
use Rattle.rely_machine.proofs.Walking.{push_runs, read_runs, elem_runs, op_runs, read_exceeds, elem_exceeds, op_exceeds, and_then, over, exceeds_first, exceeds_then, exceeds_over}

module _ (r : Function) (s : Store) (t : Counts) (running : IsRunning r s t) (e : Expr) (fits : ExprFits r.kernel.now e) where
  pub num_goes : {w : ℤ} (z : ℤ) → e ≡ Expr.Num z → w ≡ z → Runs r (expr_items e) (λ st. st) (λ st. w ∷ st) s t s t
  num_goes z is same = rw (is, same) (push_runs r z s t running)

  pub read_goes : {w : ℤ} {u : Counts} (v at i : ℕ) → e ≡ Expr.Read v → w ≡ top (cell s v) → u ≡ with_use t at i → at ≡ r.at → i ≡ number r.kernel.now (label.Read v)
      → Runs r (expr_items e) (λ st. st) (λ st. w ∷ st) s t s u
  read_goes v at i is same used here there = rw (is, same, used, here, there) (read_runs r v s t (scalar_below r.kernel.now v (subst (ExprFits r.kernel.now) is fits)) running)

  pub read_stops : (v : ℕ) → e ≡ Expr.Read v → t.limit ≤ t.steps + 1 → Exceeds r (expr_items e) (λ st. st) s t
  read_stops v is many = rw is (read_exceeds r (λ st. st) s t many v)

  module _ (a : ℕ) (i : Expr) (is : e ≡ Expr.Elem a i) where
    pub elem_fits : ExprFits r.kernel.now i
    elem_fits = (subst (ExprFits r.kernel.now) is fits).1

    pub elem_fits_array : IsTrue (is_array r.kernel.now a)
    elem_fits_array = (subst (ExprFits r.kernel.now) is fits).0

    pub elem_label : (t1 : Counts) (at n : ℕ) → IsRunning r s t1 → at ≡ r.at → n ≡ number r.kernel.now (label.Read a) → n < get_or (map length t1.uses) at 0
    elem_label t1 at n h here there = rw (here, there) (label_below r s t1 h (number r.kernel.now (label.Read a)) (let b = array_below r.kernel.now a elem_fits_array in omega (arith, b)))

    pub elem_goes : {w : ℤ} {t1 u : Counts} (z : ℤ) (at n : ℕ) → Runs r (expr_items i) (λ st. st) (λ st. z ∷ st) s t s t1 → w ≡ read_at (cell s a) z → u ≡ with_use t1 at n → at ≡ r.at
        → n ≡ number r.kernel.now (label.Read a) → Runs r (expr_items e) (λ st. st) (λ st. w ∷ st) s t s u
    elem_goes {w} {t1} z at n index same used here there =
        rw (is, same, used, here, there) (and_then r index (elem_runs r a z s t1 (array_below r.kernel.now a elem_fits_array) index.running))

    pub elem_stops_first : Exceeds r (expr_items i) (λ st. st) s t → Exceeds r (expr_items e) (λ st. st) s t
    elem_stops_first x = rw is (exceeds_first r (λ more. Elem a ∷ more) x)

    pub elem_stops : {t1 : Counts} (z : ℤ) → Runs r (expr_items i) (λ st. st) (λ st. z ∷ st) s t s t1 → t1.limit ≤ t1.steps + 1 → Exceeds r (expr_items e) (λ st. st) s t
    elem_stops {t1} z index many = rw is (exceeds_then r index (elem_exceeds r (λ st. z ∷ st) s t1 many a))

  module _ (site : ℕ) (x y : Expr) (is : e ≡ Expr.Bin site x y) where
    pub bin_fits : (site < length r.kernel.now.sites) × ExprFits r.kernel.now x × ExprFits r.kernel.now y
    bin_fits = subst (ExprFits r.kernel.now) is fits

    pub bin_label : (t2 : Counts) (at : ℕ) → IsRunning r s t2 → at ≡ r.at → site < get_or (map length t2.uses) at 0
    bin_label t2 at h here = rw here (label_below r s t2 h site (let b = bin_fits.0 in omega (arith, b)))

    pub bin_goes : {w : ℤ} {t1 t2 u : Counts} (a b : ℤ) (op : Operator) (at : ℕ) → Runs r (expr_items x) (λ st. st) (λ st. a ∷ st) s t s t1 → Runs r (expr_items y) (λ st. st) (λ st. b ∷ st) s t1 s t2
        → option_map (λ i. i.op) (slice_get r.kernel.now.sites site) ≡ Some op → w ≡ value op a b → u ≡ with_use t2 at site → at ≡ r.at → Runs r (expr_items e) (λ st. st) (λ st. w ∷ st) s t s u
    bin_goes {w} {t1} {t2} a b op at left right known same used here =
        let by : operated (operator (functions r.linked.now) r.at site) a b ≡ value op a b = rw running.known (ap (λ o. operated o a b) known) in
        rw (is, same, used, here, ← by) (and_then r left (and_then r (over r (λ st. a ∷ st) right) (op_runs r site a b s t2 bin_fits.0 right.running)))

    pub bin_stops_first : Exceeds r (expr_items x) (λ st. st) s t → Exceeds r (expr_items e) (λ st. st) s t
    bin_stops_first h = rw is (exceeds_first r (λ more. expr_items y (Op site ∷ more)) h)

    pub bin_stops_then : {t1 : Counts} (a : ℤ) → Runs r (expr_items x) (λ st. st) (λ st. a ∷ st) s t s t1 → Exceeds r (expr_items y) (λ st. st) s t1 → Exceeds r (expr_items e) (λ st. st) s t
    bin_stops_then a left h = rw is (exceeds_then r left (exceeds_over r (λ st. a ∷ st) (exceeds_first r (λ more. Op site ∷ more) h)))

    pub bin_stops : {t1 t2 : Counts} (a b : ℤ) → Runs r (expr_items x) (λ st. st) (λ st. a ∷ st) s t s t1 → Runs r (expr_items y) (λ st. st) (λ st. b ∷ st) s t1 s t2 → t2.limit ≤ t2.steps + 1
        → Exceeds r (expr_items e) (λ st. st) s t
    bin_stops {t1} {t2} a b left right many =
        rw is (exceeds_then r left (exceeds_then r (over r (λ st. a ∷ st) right) (op_exceeds r (λ st. b ∷ a ∷ st) s t2 many site)))
