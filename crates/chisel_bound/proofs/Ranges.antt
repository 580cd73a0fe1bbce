-- Bounds of partial choices stay far from the ends of 128 bits.
use Rattle.std.proofs.Common.{◌≡◌, ℕ, ◌+◌, ◌*◌, ◌^◌, ◌≤◌, ◌<◌, List, refl, ap, ◌∙◌, arith}
use Rattle.std.specs.Prelude.{slice_index, ◌==◌, if◌then◌else◌}
use Rattle.std.proofs.lemmas.Bool.{eqb-true, eq-eqb}
use Rattle.std.proofs.lemmas.Int.{ints}
use Rattle.std.proofs.Math.Nat.{mul-le-mul_right}
use lib.IntN.{ℤ, pos, neg_ℤ}
use lib.Signed.{◌≤ℤ◌}
use Rattle.chisel_table.specs.declared.partial.Partial.{Partial}
use Rattle.chisel_table.specs.declared.table.Table.{Table}
use Rattle.chisel_table.specs.Choices.{IsChoice}
use Rattle.chisel_table.specs.Lagrangian.{IsVector, penalty, price, allowance, least_at, least_sum, value, excess, row_excess}
use Rattle.chisel_table.specs.Partials.{IsPartial, slot, is_unfixed}
use Rattle.chisel_table.specs.Sums.{sum_to, list_to}
use Rattle.chisel_table.specs.Tables.{decision_count, option_count, row_count, energy_at, spent_at}
use Rattle.chisel_table.specs.Valid.{IsTable}
use Rattle.chisel_table.proofs.Sums.{by_test, differ, sum_more, sum_part, sum_bound, least_below}
use Rattle.chisel_table.proofs.Steps.{penalty_part, allowance_part}
use Rattle.chisel_bound.proofs.Lists.{length_listed, listed_at}

-- one number of a sum is at most the sum
pub sum_term : (n d : ℕ) (f : ℕ → ℕ) → d < n → f d ≤ sum_to n f
sum_term n d f l =
    let a = sum_more d f in
    let b = sum_part (d + 1) n f (omega arith) in
    omega arith

-- the choice with option o of decision d, and else the first options
only : (t : Table) (d o : ℕ) → List ℕ
only t d o = list_to (decision_count t) (λ k. if k == d then o else 0)

only_choice : (t : Table) (d o : ℕ) → IsTable t → o < option_count t d → IsChoice t (only t d o)
unfolding only
only_choice t d o table l = record {
  size = length_listed (decision_count t) _;
  in_range = λ k m. rw (listed_at (decision_count t) (λ k. if k == d then o else 0) k 0 m) (by_test (k == d)
      (λ e. rw (e, eqb-true k d e) l)
      (λ e. rw e (table.some_options k m)));
}

pub energy_at_below : (t : Table) (d o : ℕ) → IsTable t → d < decision_count t → o < option_count t d → energy_at t d o < 2 ^ 48
unfolding only
energy_at_below t d o table k l =
    let a = table.energies (only t d o) (only_choice t d o table l) in
    let b = sum_term (decision_count t) d (λ e. energy_at t e (slice_index (only t d o) e)) k in
    let c : slice_index (only t d o) d ≡ o = listed_at (decision_count t) (λ k. if k == d then o else 0) d 0 k ∙ rw (eq-eqb d d refl) refl in
    let e = ap (energy_at t d) c in
    omega (arith, a, b, e)

pub fixed_below : (t : Table) → IsTable t → t.fixed < 2 ^ 48
fixed_below t table =
    let a = table.energies (only t 0 0) (only_choice t 0 0 table (table.some_options 0 table.some_decisions)) in
    omega arith

pub penalty_below : (t : Table) (l : List ℕ) (d o : ℕ) → IsTable t → IsVector t l → d < decision_count t → o < option_count t d → penalty t l d o ≤ 2 ^ 113
penalty_below t l d o table v k m = penalty_part t l d o (row_count t) table v k m (omega arith)

pub price_below : (t : Table) (l : List ℕ) (d o : ℕ) → IsTable t → IsVector t l → d < decision_count t → o < option_count t d → price t l d o ≤ 2 ^ 114
price_below t l d o table v k m =
    let a = energy_at_below t d o table k m in
    let b = penalty_below t l d o table v k m in
    omega arith

-- sums of least weights
least_at_below : (t : Table) (w : ℕ → ℕ → ℕ) (p : Partial) (b : ℕ) → IsTable t → IsPartial t p →
    ((d o : ℕ) → d < decision_count t → o < option_count t d → w d o ≤ b) → (d : ℕ) → d < decision_count t → least_at t w p d ≤ b
least_at_below t w p b table h f d k = by_test (is_unfixed p d)
    (λ e. rw e (
    let a = least_below (option_count t d) (w d) 0 (table.some_options d k) in
    let c = f d 0 k (table.some_options d k) in
    omega arith))
    (λ e. rw e (f d (slot p d) k (h.in_range d k (differ (slot p d) 255 e))))

pub least_sum_below : (t : Table) (w : ℕ → ℕ → ℕ) (p : Partial) (b : ℕ) → IsTable t → IsPartial t p →
    ((d o : ℕ) → d < decision_count t → o < option_count t d → w d o ≤ b) → least_sum t w p ≤ 256 * b
least_sum_below t w p b table h f =
    let a = sum_bound (decision_count t) b (least_at t w p) (least_at_below t w p b table h f) in
    let c = mul-le-mul_right b table.few_decisions in
    omega (arith, a, c)

pub record IsSmall (z : ℤ) : Type 0 where
  pub above : neg_ℤ (pos (2 ^ 124)) ≤ℤ z
  pub below : z ≤ℤ pos (2 ^ 124)

allowance_small : (t : Table) (l : List ℕ) → IsTable t → IsVector t l → (neg_ℤ (pos (2 ^ 122)) ≤ℤ allowance t l) × (allowance t l ≤ℤ pos (2 ^ 122))
allowance_small t l table v =
    let a = allowance_part t l (row_count t) table v (omega arith) in
    let b = mul-le-mul_right (2 ^ 111) table.few_rows in
    (omega (arith, ints, a.0, b), omega (arith, ints, a.1, b))

pub value_small : (t : Table) (l : List ℕ) (p : Partial) → IsTable t → IsVector t l → IsPartial t p → IsSmall (value t l p)
value_small t l p table v h =
    let a = allowance_small t l table v in
    let b = least_sum_below t (price t l) p (2 ^ 114) table h (λ d o k m. price_below t l d o table v k m) in
    let c = fixed_below t table in
    record { above = omega (arith, ints, a.1); below = omega (arith, ints, a.0, b, c) }

pub excess_small : (t : Table) (l : List ℕ) (p : Partial) → IsTable t → IsVector t l → IsPartial t p → IsSmall (excess t l p)
excess_small t l p table v h =
    let a = allowance_small t l table v in
    let b = least_sum_below t (penalty t l) p (2 ^ 113) table h (λ d o k m. penalty_below t l d o table v k m) in
    record { above = omega (arith, ints, a.1); below = omega (arith, ints, a.0, b) }

pub row_excess_small : (t : Table) (i : ℕ) (p : Partial) → IsTable t → i < row_count t → IsPartial t p →
    (neg_ℤ (pos (2 ^ 24)) ≤ℤ row_excess t i p) × (row_excess t i p ≤ℤ pos (2 ^ 72))
row_excess_small t i p table r h =
    let a = table.least_budgets i r in
    let c = table.greatest_budgets i r in
    let b = least_sum_below t (spent_at t i) p (2 ^ 62) table h (λ d o k m. table.debits i d o r k m) in
    (omega (arith, ints, c), omega (arith, ints, a, b))
