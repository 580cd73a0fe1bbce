-- A partial choice in which all is fixed: it closes, or it meets every row and is before the best choice.
use Rattle.std.proofs.Common.{◌≡◌, ◌≢◌, ℕ, zero, suc, Bool, true, false, ◌*◌, ◌≤◌, ◌<◌, List, length, refl, sym, ◌∙◌, arith, Option, Some, None}
use Rattle.std.specs.Prelude.{nat_lt, slice_index, ◌&&◌, ◌==◌, not, int_lt}
use Rattle.std.proofs.lemmas.Bool.{eqb-true, ltb-true, lt-ltb}
use Rattle.std.proofs.lemmas.Bool.Decides.{nat_tests}
use Rattle.std.proofs.lemmas.Int.{ints}
use Rattle.std.proofs.Math.IntN.{zero-*ℤ}
use mathlib.Core.Logic.{inl, inr}
use lib.IntN.{ℤ, pos, ◌-ℤ◌, ◌*ℤ◌}
use lib.Signed.{◌≤ℤ◌}
use Rattle.chisel_table.specs.declared.table.Table.{Table}
use Rattle.chisel_table.specs.declared.partial.Partial.{Partial}
use Rattle.chisel_table.specs.declared.closing.CloseRule.TheVariants.{C, D, T}
use Rattle.chisel_search.specs.Search.{one_if, unfixed, choice_of}
use Rattle.chisel_table.specs.Sums.{sum_to, int_sum_to}
use Rattle.chisel_table.specs.Tables.{decision_count, row_count, energy_at, spent_at, budget_at}
use Rattle.chisel_table.specs.Choices.{energy, IsChoice, Meets}
use Rattle.chisel_table.specs.Partials.{IsPartial, slot, is_unfixed, first_option, Completes}
use Rattle.chisel_table.specs.declared.lagrangian.TheConstants.{ENERGY_WEIGHT}
use Rattle.chisel_table.specs.Lagrangian.{least_at, least_sum, price, value, row_excess}
use Rattle.chisel_table.specs.Closings.{vector_at, first_close}
use Rattle.chisel_table.proofs.Sums.{by_test, sum_mono, sum_scale, int_above, differ, sum_same}
use Rattle.chisel_table.proofs.Sequences.{precedes_at, precedes_under, same_list}
use Rattle.chisel_table.proofs.Choices.{IsBefore}
use Rattle.chisel_table.proofs.Closings.{first_close_none}
use Rattle.chisel_bound.specs.Pool.{BeginsWithZeros}
use Rattle.chisel_bound.proofs.Lists.{length_listed}
use Rattle.chisel_bound.proofs.Lists.{listed_at}

sum_none : (n : ℕ) (f : ℕ → ℕ) → sum_to n f ≡ 0 → (k : ℕ) → k < n → f k ≡ 0
unfolding sum_to
sum_none zero f h k l = absurd (omega arith)
sum_none (suc n) f h k l = by_test (k == n)
    (λ e. let q = eqb-true k n e in rw q (omega arith))
    (λ e. let ne = differ k n e in sum_none n f (omega arith) k (let m : k ≢ n = ne in omega arith))

-- where none is unfixed each decision is fixed
pub all_fixed : (t : Table) (p : Partial) → unfixed t p ≡ 0 → (d : ℕ) → d < decision_count t → is_unfixed p d ≡ false
all_fixed t p h d l = by_test (is_unfixed p d)
    (λ e. absurd (let a = rw e at (sum_none (decision_count t) (λ d. one_if (is_unfixed p d)) h d l) in omega arith))
    (λ e. e)

-- where some is unfixed some decision is
pub some_unfixed : (n : ℕ) (p : Partial) → 0 < sum_to n (λ d. one_if (is_unfixed p d)) → (d : ℕ) × (d < n) × (is_unfixed p d ≡ true)
unfolding sum_to
some_unfixed zero p h = absurd (omega arith)
some_unfixed (suc n) p h = by_test (is_unfixed p n)
    (λ e. (n, omega arith, e))
    (λ e. let a = some_unfixed n p (let q = rw e at h in omega arith) in (a.0, omega arith, a.2))

pub choice_at : (t : Table) (p : Partial) (d : ℕ) → d < decision_count t → slice_index (choice_of t p) d ≡ slot p d
choice_at t p d l = listed_at (decision_count t) (slot p) d 0 l

pub is_choice : (t : Table) (p : Partial) → IsPartial t p → unfixed t p ≡ 0 → IsChoice t (choice_of t p)
is_choice t p h z = record {
  size = length_listed (decision_count t) (slot p);
  in_range = λ d l. rw (choice_at t p d l) (h.in_range d l (differ _ _ (all_fixed t p z d l)));
}

-- the one completion
pub one_completion : (t : Table) (p : Partial) (c : List ℕ) → unfixed t p ≡ 0 → Completes t p c → c ≡ choice_of t p
one_completion t p c z k = same_list (decision_count t) c (choice_of t p) k.choice.size (length_listed (decision_count t) (slot p))
    (λ d l. k.fixed d l (differ _ _ (all_fixed t p z d l)) ∙ sym (choice_at t p d l))

-- the least weights are those of the one completion
least_is : (t : Table) (w : ℕ → ℕ → ℕ) (p : Partial) → unfixed t p ≡ 0 → least_sum t w p ≡ sum_to (decision_count t) (λ d. w d (slice_index (choice_of t p) d))
least_is t w p z = sum_same (decision_count t) (least_at t w p) (λ d. w d (slice_index (choice_of t p) d))
    (λ d l. rw (all_fixed t p z d l, choice_at t p d l) refl)

allowance_zero : (n : ℕ) (l : ℕ → ℕ) (b : ℕ → ℤ) → ((i : ℕ) → l i ≡ 0) → int_sum_to n (λ i. pos (l i) *ℤ b i) ≡ pos 0
unfolding int_sum_to
allowance_zero zero l b h = refl
allowance_zero (suc n) l b h = rw (allowance_zero n l b h, h n, zero-*ℤ) refl

-- without multipliers the bound is the energy of the one completion
value_is : (t : Table) (l : List ℕ) (p : Partial) → ((i : ℕ) → slice_index l i ≡ 0) → unfixed t p ≡ 0 →
    pos (ENERGY_WEIGHT * energy t (choice_of t p)) ≤ℤ value t l p
value_is t l p h z =
    let c = choice_of t p in
    let a = allowance_zero (row_count t) (slice_index l) (budget_at t) h in
    let e = least_is t (price t l) p z in
    let f = sum_scale (decision_count t) ENERGY_WEIGHT (λ d. energy_at t d (slice_index c d)) in
    let g = sum_mono (decision_count t) (λ d. ENERGY_WEIGHT * energy_at t d (slice_index c d)) (λ d. price t l d (slice_index c d)) (λ d k. omega arith) in
    omega (arith, ints)

second_false : (a b : Bool) → (a && b) ≡ false → a ≡ true → b ≡ false
second_false true b h e = h
second_false false b h e = cc

false_not : (b : Bool) → not b ≡ false → b ≡ true
false_not true h = refl
false_not false h = cc

-- a partial choice that is complete and doesn't close meets every row
pub unclosed_meets : (t : Table) (pool : List (List ℕ)) (best : Option (List ℕ)) (p : Partial) → unfixed t p ≡ 0 →
    first_close t pool best p ≡ None → Meets t (choice_of t p)
unclosed_meets t pool best p z h = record {
  rows = λ i l.
      let a = second_false _ _ (first_close_none t pool best p h C i) (lt-ltb i (row_count t) l) in
      let b = int_above (pos 0) (row_excess t i p) a in
      let e = least_is t (spent_at t i) p z in
      omega (arith, ints);
}

-- it is before the best choice
pub unclosed_before : (t : Table) (pool : List (List ℕ)) (b : List ℕ) (p : Partial) → BeginsWithZeros pool → unfixed t p ≡ 0 →
    first_close t pool (Some b) p ≡ None → IsBefore t (choice_of t p) b
unclosed_before t pool b p zs z h =
    let l = vector_at pool 0 in
    let c = choice_of t p in
    let v : pos (ENERGY_WEIGHT * energy t c) ≤ℤ value t l p = value_is t l p zs.zeros z in
    let d = int_above (pos (ENERGY_WEIGHT * energy t b)) (value t l p) (second_false _ _ (first_close_none t pool (Some b) p h D 0) (lt-ltb 0 (length pool) zs.some)) in
    let u = second_false _ _ (first_close_none t pool (Some b) p h T 0) (lt-ltb 0 (length pool) zs.some) in
    by_test (nat_lt (energy t c) (energy t b))
    (λ e. inl (ltb-true _ _ e))
    (λ e.
    let even : energy t c ≡ energy t b = let ge : energy t b ≤ energy t c = grind (arith, nat_tests) in omega (arith, ints) in
    let w : int_lt (pos (ENERGY_WEIGHT * energy t b) -ℤ pos ENERGY_WEIGHT) (value t l p) ≡ true =
    by_test (int_lt (pos (ENERGY_WEIGHT * energy t b) -ℤ pos ENERGY_WEIGHT) (value t l p)) (λ f. f)
    (λ f. absurd (let g = int_above (pos (ENERGY_WEIGHT * energy t b) -ℤ pos ENERGY_WEIGHT) (value t l p) f in omega (arith, ints))) in
    let q = precedes_at _ _ _ (false_not _ (second_false _ _ u w)) in
    inr (
      even,
      precedes_under (decision_count t) (slice_index c) (first_option p) (slice_index b)
          (λ k m. rw (all_fixed t p z k m, choice_at t p k m) (omega arith)) q,
    ))
