-- The first closing rule, from kept numbers.
use Rattle.std.proofs.Common.{◌≡◌, ℕ, zero, suc, Bool, true, false, ◌*◌, ◌<◌, List, length, refl, sym, ap, ◌∙◌, arith, Option, Some, None}
use Rattle.std.specs.Prelude.{◌&&◌, not, if◌then◌else◌, int_lt, slice_index}
use Rattle.std.proofs.lemmas.Bool.{and_left, and_right}
use Rattle.std.proofs.lemmas.List.{length-map}
use lib.IntN.{ℤ, pos, ◌-ℤ◌}
use Rattle.chisel_table.specs.declared.closing.Close.{Close}
use Rattle.chisel_table.specs.declared.closing.CloseRule.TheVariants.{C, I, D, T}
use Rattle.chisel_table.specs.declared.lagrangian.TheConstants.{ENERGY_WEIGHT}
use Rattle.chisel_table.specs.declared.partial.Partial.{Partial}
use Rattle.chisel_table.specs.declared.table.Table.{Table}
use Rattle.chisel_table.specs.Choices.{energy, precedes}
use Rattle.chisel_table.specs.Closings.{row_closes, vector_at, first_by, close_or, first_close}
use Rattle.chisel_table.specs.Lagrangian.{value, excess, row_excess}
use Rattle.chisel_table.specs.Partials.{first_option}
use Rattle.chisel_table.specs.Sums.{first_to}
use Rattle.chisel_table.specs.Tables.{row_count}
use Rattle.chisel_table.proofs.Sums.{first_none, first_nowhere}
use Rattle.chisel_bound.specs.declared.bounds.Bounds.{Bounds}
use Rattle.chisel_bound.specs.declared.rows.RowSums.{RowSums}
use Rattle.chisel_bound.specs.BoundsAt.{bounds_at}
use Rattle.chisel_bound.specs.Kept.{AreRowSums, bounds_of, bounds_with}
use Rattle.chisel_bound.specs.Rows.{excess_at}
use Rattle.chisel_bound.proofs.Adding.{bounds_at_of}
use Rattle.chisel_bound.proofs.Lists.{length_listed, listed_at}

-- of tests that agree
pub first_agree : (n : ℕ) (f g : ℕ → Bool) → ((k : ℕ) → k < n → f k ≡ g k) → first_to n f ≡ first_to n g
unfolding first_to
first_agree zero f g h = refl
first_agree (suc n) f g h =
    let a = first_agree n f g (λ k l. h k (omega arith)) in
    let b = h n (omega arith) in
    λ i. elim (a i) [ Some k ↦ Some k | None ↦ if b i then Some n else None ]

-- a test beside another that always holds, or never
pub first_with : (n : ℕ) (f : ℕ → Bool) (b : Bool) → b ≡ true → first_to n (λ k. f k && b) ≡ first_to n f
first_with n f b h = first_agree n (λ k. f k && b) f (λ k l. go (f k))
  where
    go : (x : Bool) → (x && b) ≡ x
    go true = h
    go false = refl

pub first_without : (n : ℕ) (f : ℕ → Bool) (b : Bool) → b ≡ false → first_to n (λ k. f k && b) ≡ None
first_without n f b h = first_nowhere n (λ k. f k && b) (λ k l. and_right (f k) b h)

-- ---- the first rule

the_first : Option ℕ → Option ℕ → Option ℕ → Option ℕ → Option Close
the_first c i d e = close_or C c (close_or I i (close_or D d (close_or T e None)))

module _ (t : Table) (pool : List (List ℕ)) (best : Option (List ℕ)) (p : Partial) where
  pub close_c : (n : ℕ) → first_by t pool best p C ≡ Some n → Some (record { rule = C; index = n }) ≡ first_close t pool best p
  unfolding the_first
  close_c n e = sym (λ k. the_first (e k) (first_by t pool best p I) (first_by t pool best p D) (first_by t pool best p T))

  pub close_i : (n : ℕ) → first_by t pool best p C ≡ None → first_by t pool best p I ≡ Some n → Some (record { rule = I; index = n }) ≡ first_close t pool best p
  unfolding the_first
  close_i n c e = sym (λ k. the_first (c k) (e k) (first_by t pool best p D) (first_by t pool best p T))

  pub close_d : (n : ℕ) → first_by t pool best p C ≡ None → first_by t pool best p I ≡ None → first_by t pool best p D ≡ Some n →
      Some (record { rule = D; index = n }) ≡ first_close t pool best p
  unfolding the_first
  close_d n c i e = sym (λ k. the_first (c k) (i k) (e k) (first_by t pool best p T))

  pub close_t : (r : Option ℕ) → first_by t pool best p C ≡ None → first_by t pool best p I ≡ None → first_by t pool best p D ≡ None →
      first_by t pool best p T ≡ r → close_or T r None ≡ first_close t pool best p
  unfolding the_first
  close_t r c i d e = sym (λ k. the_first (c k) (i k) (d k) (e k))

-- without a best choice two rules never hold
pub without_best : (t : Table) (pool : List (List ℕ)) (p : Partial) → first_by t pool None p C ≡ None → first_by t pool None p I ≡ None → None ≡ first_close t pool None p
without_best t pool p c i =
    close_t t pool None p None c i (first_nowhere (length pool) (λ j. false) (λ k l. refl)) (first_nowhere (length pool) (λ j. false) (λ k l. refl))

-- ---- kept numbers

pub rows_close : (t : Table) (pool : List (List ℕ)) (best : Option (List ℕ)) (r : RowSums) → AreRowSums t r →
    first_to (length r.excesses.items) (λ i. int_lt (pos 0) (excess_at r.excesses.items i)) ≡ first_by t pool best r.partial C
rows_close t pool best r h =
    let n = ap length h.excesses ∙ length_listed (row_count t) (λ i. row_excess t i r.partial) in
    ap (λ k. first_to k (λ i. int_lt (pos 0) (excess_at r.excesses.items i))) n
    ∙ first_agree (row_count t) (λ i. int_lt (pos 0) (excess_at r.excesses.items i)) (row_closes t r.partial)
    (λ i l. ap (int_lt (pos 0)) (ap (λ es. excess_at es i) h.excesses ∙ listed_at (row_count t) (λ i. row_excess t i r.partial) i (pos 0) l))

module _ (t : Table) (pool : List (List ℕ)) (p : Partial) (bs : List Bounds) (is : bs ≡ bounds_of t pool p) where
  size : length bs ≡ length pool
  size = ap length is ∙ length-map pool (bounds_with t p)

  at : (j : ℕ) → j < length pool → bounds_at bs j ≡ bounds_with t p (vector_at pool j)
  at j l = ap (λ xs. bounds_at xs j) is ∙ bounds_at_of t pool p j l

  pub excess_closes : (best : Option (List ℕ)) → first_to (length bs) (λ j. int_lt (pos 0) (bounds_at bs j).excess) ≡ first_by t pool best p I
  excess_closes best =
      ap (λ k. first_to k (λ j. int_lt (pos 0) (bounds_at bs j).excess)) size
      ∙ first_agree (length pool) (λ j. int_lt (pos 0) (bounds_at bs j).excess) (λ j. int_lt (pos 0) (excess t (vector_at pool j) p))
      (λ j l. ap (λ b. int_lt (pos 0) b.excess) (at j l))

  above_limit : (limit : ℤ) → first_to (length bs) (λ j. int_lt limit (bounds_at bs j).value) ≡ first_to (length pool) (λ j. int_lt limit (value t (vector_at pool j) p))
  above_limit limit =
      ap (λ k. first_to k (λ j. int_lt limit (bounds_at bs j).value)) size
      ∙ first_agree (length pool) (λ j. int_lt limit (bounds_at bs j).value) (λ j. int_lt limit (value t (vector_at pool j) p))
      (λ j l. ap (λ b. int_lt limit b.value) (at j l))

  pub value_closes : (b : List ℕ) (limit : ℤ) → limit ≡ pos (ENERGY_WEIGHT * energy t b) →
      first_to (length bs) (λ j. int_lt limit (bounds_at bs j).value) ≡ first_by t pool (Some b) p D
  value_closes b limit e = above_limit limit ∙ ap (λ x. first_to (length pool) (λ j. int_lt x (value t (vector_at pool j) p))) e

  tied : (b : List ℕ) → ℕ → Bool
  tied b j = int_lt (pos (ENERGY_WEIGHT * energy t b) -ℤ pos ENERGY_WEIGHT) (value t (vector_at pool j) p)

  -- a tie closes where the first completion isn't before the best choice
  pub tie_closes : (b : List ℕ) (limit : ℤ) → limit ≡ pos (ENERGY_WEIGHT * energy t b) -ℤ pos ENERGY_WEIGHT →
      precedes t (first_option p) (slice_index b) ≡ false → first_to (length bs) (λ j. int_lt limit (bounds_at bs j).value) ≡ first_by t pool (Some b) p T
  unfolding tied
  tie_closes b limit e q =
      above_limit limit ∙ ap (λ x. first_to (length pool) (λ j. int_lt x (value t (vector_at pool j) p))) e
      ∙ sym (first_with (length pool) (tied b) (not (precedes t (first_option p) (slice_index b))) (ap not q))

  pub tie_stays : (b : List ℕ) → precedes t (first_option p) (slice_index b) ≡ true → first_by t pool (Some b) p T ≡ None
  unfolding tied
  tie_stays b q = first_without (length pool) (tied b) (not (precedes t (first_option p) (slice_index b))) (ap not q)

  pub tie_none : (b : List ℕ) (limit : ℤ) → limit ≡ pos (ENERGY_WEIGHT * energy t b) -ℤ pos ENERGY_WEIGHT →
      first_to (length bs) (λ j. int_lt limit (bounds_at bs j).value) ≡ None → first_by t pool (Some b) p T ≡ None
  unfolding tied
  tie_none b limit e n =
      let f = first_none (length pool) (tied b) (sym (ap (λ x. first_to (length pool) (λ j. int_lt x (value t (vector_at pool j) p))) e) ∙ sym (above_limit limit) ∙ n) in
      first_nowhere (length pool) (λ j. tied b j && not (precedes t (first_option p) (slice_index b))) (λ k l. and_left (tied b k) _ (f k l))

-- ---- what the code finds

pub rows_found : (t : Table) (pool : List (List ℕ)) (best : Option (List ℕ)) (r : RowSums) (es : List ℤ) (x : Option ℕ) → AreRowSums t r → es ≡ r.excesses.items →
    x ≡ first_to (length es) (λ i. int_lt (pos 0) (excess_at es i)) → first_by t pool best r.partial C ≡ x
rows_found t pool best r es x h is e =
    sym (e ∙ ap (λ (ys : List ℤ). first_to (length ys) (λ i. int_lt (pos 0) (excess_at ys i))) is ∙ rows_close t pool best r h)

pub excess_found : (t : Table) (pool : List (List ℕ)) (best : Option (List ℕ)) (p : Partial) (bs : List Bounds) (x : Option ℕ) → bs ≡ bounds_of t pool p →
    x ≡ first_to (length bs) (λ j. int_lt (pos 0) (bounds_at bs j).excess) → first_by t pool best p I ≡ x
excess_found t pool best p bs x is e = sym (e ∙ excess_closes t pool p bs is best)

pub value_found : (t : Table) (pool : List (List ℕ)) (b : List ℕ) (p : Partial) (bs : List Bounds) (limit : ℤ) (x : Option ℕ) → bs ≡ bounds_of t pool p →
    x ≡ first_to (length bs) (λ j. int_lt limit (bounds_at bs j).value) → limit ≡ pos (ENERGY_WEIGHT * energy t b) → first_by t pool (Some b) p D ≡ x
value_found t pool b p bs limit x is e l = sym (e ∙ value_closes t pool p bs is b limit l)
