-- What putting an option in the place of another changes in the excesses of rows.
use Rattle.std.proofs.Common.{◌≡◌, ◌≢◌, ℕ, ◌+◌, ◌^◌, ◌<◌, List, length, refl, sym, ap, ◌∙◌, arith}
use Rattle.std.specs.Prelude.{slice_index, ◌==◌, if◌then◌else◌}
use Rattle.std.proofs.lemmas.Bool.{eqb-true, ne_eqb}
use Rattle.std.proofs.lemmas.Int.{ints}
use Rattle.std.proofs.lemmas.List.{get_or-set_same, get_or-set_other, length-set, length-replicate}
use lib.IntN.{pos, neg_ℤ, ◌+ℤ◌, ◌-ℤ◌}
use lib.Signed.{◌≤ℤ◌}
use Rattle.chisel_table.specs.declared.partial.Partial.{Partial}
use Rattle.chisel_table.specs.declared.partial.TheConstants.{UNFIXED}
use Rattle.chisel_table.specs.declared.table.Table.{Table}
use Rattle.chisel_table.specs.declared.table.TheConstants.{MAX_DECISIONS}
use Rattle.chisel_table.specs.Lagrangian.{least_at, row_excess}
use Rattle.chisel_table.specs.Partials.{IsPartial, slot, with_option, nothing_fixed}
use Rattle.chisel_table.specs.Sums.{least_to, list_to}
use Rattle.chisel_table.specs.Tables.{decision_count, option_count, row_count, spent_at}
use Rattle.chisel_table.specs.Valid.{IsTable}
use Rattle.chisel_table.proofs.Sums.{by_test, differ, least_below, sum_same, sum_change}
use Rattle.chisel_bound.specs.Columns.{above_least, column}
use Rattle.chisel_table.proofs.Partials.{nothing_partial}
use Rattle.chisel_bound.specs.declared.rows.RowSums.{RowSums}
use Rattle.chisel_bound.specs.Kept.{AreRowSums}
use Rattle.chisel_bound.specs.Rows.{IsSlot, excess_at, CanAdd, CanTake, AddsColumn, TakesColumn}
use Rattle.chisel_bound.proofs.Lists.{length_listed, listed_at, listed_same, listed_agree}
use Rattle.chisel_bound.proofs.Ranges.{row_excess_small}

-- what a slot adds to the excess of row i: nothing where it is unfixed
abbrev pub slot_above : Table → ℕ → ℕ → ℕ → ℕ
slot_above t i d s = if s == UNFIXED then 0 else above_least t d s i

least_at_is : (t : Table) (i d s : ℕ) (p : Partial) → slot p d ≡ s → IsSlot t d s →
    least_at t (spent_at t i) p d ≡ least_to (option_count t d) (spent_at t i d) + slot_above t i d s
least_at_is t i d s p e h = by_test (s == UNFIXED)
    (λ z. rw (e, z) (omega arith))
    (λ z. let l = h (differ s UNFIXED z) in
    let a = least_below (option_count t d) (spent_at t i d) s l in
    rw (e, z) (omega arith))

pub put_slot : (p : Partial) (d s : ℕ) → d < length p.slots → slot (with_option p d s) d ≡ s
put_slot p d s l = get_or-set_same p.slots d s 0 l

pub put_other : (p : Partial) (d s e : ℕ) → e ≢ d → slot (with_option p d s) e ≡ slot p e
put_other p d s e ne = get_or-set_other p.slots d e s 0 ne

pub slot_of : (t : Table) (p : Partial) (d : ℕ) → IsPartial t p → d < decision_count t → IsSlot t d (slot p d)
slot_of t p d h k = λ ne. h.in_range d k ne

pub put_partial : (t : Table) (p : Partial) (d s : ℕ) → d < length p.slots → IsSlot t d s → IsPartial t p → IsPartial t (with_option p d s)
put_partial t p d s l h k = record {
  size = k.size;
  in_range = λ e m. by_test (e == d)
      (λ z. let w = eqb-true e d z in rw (w, put_slot p d s l) h)
      (λ z. rw (put_other p d s e (differ e d z)) (k.in_range e m));
}

pub put_excess : (t : Table) (i : ℕ) (p : Partial) (d s : ℕ) → d < decision_count t → d < length p.slots → IsPartial t p → IsSlot t d s →
    row_excess t i (with_option p d s) ≡ (row_excess t i p -ℤ pos (slot_above t i d (slot p d))) +ℤ pos (slot_above t i d s)
put_excess t i p d s k l h g =
    let q = with_option p d s in
    let a = sum_change (decision_count t) (least_at t (spent_at t i) q) (least_at t (spent_at t i) p) d k
    (λ e ne. ap (λ x. if x == UNFIXED then least_to (option_count t e) (spent_at t i e) else spent_at t i e x) (put_other p d s e ne)) in
    let b = least_at_is t i d (slot p d) p refl (slot_of t p d h k) in
    let c = least_at_is t i d s q (put_slot p d s l) g in
    omega (arith, ints, a, b, c)

-- with no option there, which is least
pub cleared_above : (t : Table) (i : ℕ) (p : Partial) (d : ℕ) → IsTable t → i < row_count t → d < decision_count t → d < length p.slots → IsPartial t p →
    neg_ℤ (pos (2 ^ 24)) ≤ℤ (row_excess t i p -ℤ pos (slot_above t i d (slot p d)))
cleared_above t i p d table r k l h =
    let g : IsSlot t d UNFIXED = λ ne. absurd (ne refl) in
    let a = put_excess t i p d UNFIXED k l h g in
    let b = row_excess_small t i (with_option p d UNFIXED) table r (put_partial t p d UNFIXED l g h) in
    omega (arith, ints, a, b.0)

-- partial choices with the same slots have the same excesses
pub same_excess : (t : Table) (i : ℕ) (p q : Partial) → ((d : ℕ) → d < decision_count t → slot p d ≡ slot q d) → row_excess t i p ≡ row_excess t i q
same_excess t i p q h =
    let a = sum_same (decision_count t) (least_at t (spent_at t i) p) (least_at t (spent_at t i) q)
    (λ d k. ap (λ x. if x == UNFIXED then least_to (option_count t d) (spent_at t i d) else spent_at t i d x) (h d k)) in
    omega (arith, ints, a)

-- ---- the sums of all rows

module _ (t : Table) (r : RowSums) (d : ℕ) (table : IsTable t) (k : d < decision_count t) (h : AreRowSums t r) where
  inside : d < length r.partial.slots
  inside = let a = h.room in let b = table.few_decisions in omega arith

  excess_is : (i : ℕ) → i < row_count t → excess_at r.excesses.items i ≡ row_excess t i r.partial
  excess_is i l = ap (λ es. excess_at es i) h.excesses ∙ listed_at (row_count t) (λ i. row_excess t i r.partial) i (pos 0) l

  size : length r.excesses.items ≡ row_count t
  size = ap length h.excesses ∙ length_listed (row_count t) (λ i. row_excess t i r.partial)

  column_at : (s i : ℕ) (xs : List ℕ) → xs ≡ column t d s → i < row_count t → slice_index xs i ≡ above_least t d s i
  column_at s i xs e l = ap (λ ys. slice_index ys i) e ∙ listed_at (row_count t) (above_least t d s) i 0 l

  column_size : (s : ℕ) (xs : List ℕ) → xs ≡ column t d s → length xs ≡ row_count t
  column_size s xs e = ap length e ∙ length_listed (row_count t) (above_least t d s)

  pub same_size : (s : ℕ) (xs : List ℕ) → xs ≡ column t d s → length r.excesses.items ≡ length xs
  same_size s xs e = size ∙ sym (column_size s xs e)

  none : IsSlot t d UNFIXED
  none = λ ne. absurd (ne refl)

  above_none : (i : ℕ) → slot_above t i d UNFIXED ≡ 0
  above_none i = refl

  above_some : (i s : ℕ) → s ≢ UNFIXED → slot_above t i d s ≡ above_least t d s i
  above_some i s ne = rw (ne_eqb s UNFIXED ne) refl

  -- where an option is fixed
  module _ (ne : slot r.partial d ≢ UNFIXED) (xs : List ℕ) (is : xs ≡ column t d (slot r.partial d)) where
    cleared : (i : ℕ) → i < row_count t →
        row_excess t i (with_option r.partial d UNFIXED) ≡ excess_at r.excesses.items i -ℤ pos (slice_index xs i)
    cleared i l =
        let a = put_excess t i r.partial d UNFIXED k inside h.partial none in
        let b = above_some i (slot r.partial d) ne in
        let c = column_at (slot r.partial d) i xs is l in
        let e = excess_is i l in
        let z = above_none i in
        omega (arith, ints, a, b, c, e, z)

    pub can_take : CanTake r.excesses.items xs
    can_take = record {
      fits = λ i m.
          let l : i < row_count t = let a = column_size (slot r.partial d) xs is in omega arith in
          let a = cleared i l in
          let b = row_excess_small t i (with_option r.partial d UNFIXED) table l (put_partial t r.partial d UNFIXED inside none h.partial) in
          omega (arith, ints, a, b.0);
    }

    pub cleared_sums : (q : RowSums) → q.partial ≡ with_option r.partial d UNFIXED → TakesColumn r.excesses.items xs q.excesses.items → AreRowSums t q
    cleared_sums q e w = record {
      room = ap (λ p. length p.slots) e ∙ length-set r.partial.slots d UNFIXED ∙ h.room;
      partial = rw e (put_partial t r.partial d UNFIXED inside none h.partial);
      excesses = listed_same (pos 0) (row_count t) (λ i. row_excess t i q.partial) q.excesses.items (w.size ∙ size)
          (λ i l.
          w.each i (let a = column_size (slot r.partial d) xs is in omega arith)
          ∙ sym (cleared i l)
          ∙ ap (row_excess t i) (sym e));
    }

  -- where nothing is fixed
  module _ (s : ℕ) (free : slot r.partial d ≡ UNFIXED) (g : s < option_count t d) (ne : s ≢ UNFIXED) (xs : List ℕ) (is : xs ≡ column t d s) where
    filled : (i : ℕ) → i < row_count t → row_excess t i (with_option r.partial d s) ≡ excess_at r.excesses.items i +ℤ pos (slice_index xs i)
    filled i l =
        let a = put_excess t i r.partial d s k inside h.partial (λ x. g) in
        let b = above_some i s ne in
        let c = column_at s i xs is l in
        let e = excess_is i l in
        let z = ap (slot_above t i d) free ∙ above_none i in
        omega (arith, ints, a, b, c, e, z)

    pub can_add : CanAdd r.excesses.items xs
    can_add = record {
      fits = λ i m.
          let l : i < row_count t = let a = column_size s xs is in omega arith in
          let a = filled i l in
          let b = row_excess_small t i (with_option r.partial d s) table l (put_partial t r.partial d s inside (λ x. g) h.partial) in
          omega (arith, ints, a, b.1);
    }

    pub filled_sums : (q : RowSums) → q.partial ≡ with_option r.partial d s → AddsColumn r.excesses.items xs q.excesses.items → AreRowSums t q
    filled_sums q e w = record {
      room = ap (λ p. length p.slots) e ∙ length-set r.partial.slots d s ∙ h.room;
      partial = rw e (put_partial t r.partial d s inside (λ x. g) h.partial);
      excesses = listed_same (pos 0) (row_count t) (λ i. row_excess t i q.partial) q.excesses.items (w.size ∙ size)
          (λ i l.
          w.each i (let a = column_size s xs is in omega arith)
          ∙ sym (filled i l)
          ∙ ap (row_excess t i) (sym e));
    }

-- the sums of a partial choice with the same slots
pub same_sums : (t : Table) (r q : RowSums) → AreRowSums t r → q.excesses.items ≡ r.excesses.items → IsPartial t q.partial → length q.partial.slots ≡ MAX_DECISIONS →
    ((d : ℕ) → d < decision_count t → slot r.partial d ≡ slot q.partial d) → AreRowSums t q
same_sums t r q h e p room same = record {
  room = room;
  partial = p;
  excesses = e ∙ h.excesses ∙ listed_agree (pos 0) (row_count t) (λ i. row_excess t i r.partial) (λ i. row_excess t i q.partial)
      (λ i l. same_excess t i r.partial q.partial same);
}

-- the sums where nothing is fixed
pub start_sums : (t : Table) (r : RowSums) → IsTable t → r.partial ≡ nothing_fixed t → r.excesses.items ≡ list_to (row_count t) (λ i. row_excess t i (nothing_fixed t)) → AreRowSums t r
start_sums t r table e x = record {
  room = ap (λ p. length p.slots) e ∙ length-replicate MAX_DECISIONS UNFIXED;
  partial = rw e (nothing_partial t table.few_decisions);
  excesses = x ∙ (λ j. list_to (row_count t) (λ i. row_excess t i (sym e j)));
}
