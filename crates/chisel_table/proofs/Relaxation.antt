-- The relaxation bounds each completion that meets every row, and fixing a decision changes it by that decision alone.
use Rattle.std.specs.Prelude.{◌==◌, if◌then◌else◌, slice_index}
use Rattle.std.proofs.Common.{◌≡◌, ◌≢◌, ℕ, true, ◌≤◌, ◌<◌, refl, ap, ◌∙◌, arith, ◌+◌, ◌*◌, List}
use Rattle.std.proofs.lemmas.Bool.{eq-eqb}
use Rattle.std.proofs.lemmas.Int.{ints}
use lib.IntN.{pos, ◌+ℤ◌}
use lib.Signed.{◌≤ℤ◌}
use Rattle.chisel_table.specs.declared.lagrangian.TheConstants.{ENERGY_WEIGHT}
use Rattle.chisel_table.specs.declared.partial.Partial.{Partial}
use Rattle.chisel_table.specs.declared.table.Table.{Table}
use Rattle.chisel_table.specs.Choices.{energy, spent, Meets}
use Rattle.chisel_table.specs.Lagrangian.{penalty, price, allowance, least_at, least_sum, value, excess, row_excess}
use Rattle.chisel_table.specs.Partials.{slot, is_unfixed, with_option, Completes}
use Rattle.chisel_table.specs.Soundness.{RelaxationIsBound}
use Rattle.chisel_table.specs.Sums.{sum_to, least_to}
use Rattle.chisel_table.specs.Tables.{decision_count, option_count, row_count, energy_at, budget_at, spent_at}
use Rattle.chisel_table.proofs.Partials.{slot_fixed, slot_other, not_unfixed}
use Rattle.chisel_table.proofs.Sums.{by_test, sum_mono, sum_add, sum_scale, sum_swap, int_sum_above, scaled_above, least_below, sum_change}

-- the least weight of a decision is at most that of a completion
least_at_below : (t : Table) (w : ℕ → ℕ → ℕ) (p : Partial) (c : List ℕ) → Completes t p c → (d : ℕ) → d < decision_count t →
    least_at t w p d ≤ w d (slice_index c d)
least_at_below t w p c h d l = by_test (is_unfixed p d)
    (λ e. rw e (least_below (option_count t d) (w d) (slice_index c d) (h.choice.in_range d l)))
    (λ e. let ne : slot p d ≢ 255 = λ z. absurd (let q = eq-eqb (slot p d) 255 z in cc) in
    rw (e, h.fixed d l ne) (omega arith))

-- the sum of the least weights is at most that of a completion
pub least_sum_below : (t : Table) (w : ℕ → ℕ → ℕ) (p : Partial) (c : List ℕ) → Completes t p c →
    least_sum t w p ≤ sum_to (decision_count t) (λ d. w d (slice_index c d))
least_sum_below t w p c h = sum_mono (decision_count t) (least_at t w p) (λ d. w d (slice_index c d)) (least_at_below t w p c h)

-- a choice that meets every row spends at most the budgets under any multipliers
pub penalty_allowed : (t : Table) (l c : List ℕ) → Meets t c →
    pos (sum_to (decision_count t) (λ d. penalty t l d (slice_index c d))) ≤ℤ allowance t l
penalty_allowed t l c m =
    rw (sum_swap (decision_count t) (row_count t) (λ i d. slice_index l i * spent_at t i d (slice_index c d)))
    (int_sum_above (row_count t) _ _ (λ i k.
    rw (sum_scale (decision_count t) (slice_index l i) (λ d. spent_at t i d (slice_index c d)))
    (scaled_above (slice_index l i) (spent t i c) (budget_at t i) (m.rows i k))))

-- the excess of completions that meet every row is not positive
pub excess_sound : (t : Table) (p : Partial) (l c : List ℕ) → Completes t p c → Meets t c → excess t l p ≤ℤ pos 0
excess_sound t p l c k m =
    let a = least_sum_below t (penalty t l) p c k in
    let b = penalty_allowed t l c m in
    omega (arith, ints)

-- the Lagrangian bound is at most the energy of each completion that meets every row
pub value_sound : (t : Table) (p : Partial) (l c : List ℕ) → Completes t p c → Meets t c → value t l p ≤ℤ pos (ENERGY_WEIGHT * energy t c)
value_sound t p l c k m =
    let a = least_sum_below t (price t l) p c k in
    let e = sum_add (decision_count t) (λ d. ENERGY_WEIGHT * energy_at t d (slice_index c d)) (λ d. penalty t l d (slice_index c d)) in
    let f = sum_scale (decision_count t) ENERGY_WEIGHT (λ d. energy_at t d (slice_index c d)) in
    let b = penalty_allowed t l c m in
    omega (arith, ints)

-- no completion that meets row i has an excess in it
pub row_excess_sound : (t : Table) (p : Partial) (i : ℕ) (c : List ℕ) → i < row_count t → Completes t p c → Meets t c → row_excess t i p ≤ℤ pos 0
row_excess_sound t p i c l k m =
    let a = least_sum_below t (spent_at t i) p c k in
    let b = m.rows i l in
    omega (arith, ints)

pub relaxed : RelaxationIsBound
relaxed t p c k m = record {
  below_energy = λ l. value_sound t p l c k m;
  no_excess = λ l. excess_sound t p l c k m;
  no_row_excess = λ i l. row_excess_sound t p i c l k m;
}

-- a sum of least weights after a decision is fixed
pub least_sum_fixed : (t : Table) (w : ℕ → ℕ → ℕ) (p : Partial) (d o : ℕ) → d < decision_count t → is_unfixed p d ≡ true → o < 255 →
    least_sum t w (with_option p d o) + least_to (option_count t d) (w d) ≡ least_sum t w p + w d o
least_sum_fixed t w p d o l u s =
    let q = with_option p d o in
    let a = sum_change (decision_count t) (least_at t w q) (least_at t w p) d l
    (λ k ne. ap (λ x. if x == 255 then least_to (option_count t k) (w k) else w k x) (slot_other p d o k ne)) in
    let b : least_at t w p d ≡ least_to (option_count t d) (w d) = rw u refl in
    let c : least_at t w q d ≡ w d o = ap (λ x. if x == 255 then least_to (option_count t d) (w d) else w d x) (slot_fixed p d o u) ∙ rw (not_unfixed o s) refl in
    omega arith

-- the Lagrangian bound after a decision is fixed
pub value_fixed : (t : Table) (l : List ℕ) (p : Partial) (d o : ℕ) → d < decision_count t → is_unfixed p d ≡ true → o < 255 →
    value t l (with_option p d o) +ℤ pos (least_to (option_count t d) (price t l d)) ≡ value t l p +ℤ pos (price t l d o)
value_fixed t l p d o m u s = let a = least_sum_fixed t (price t l) p d o m u s in omega (arith, ints)

pub excess_fixed : (t : Table) (l : List ℕ) (p : Partial) (d o : ℕ) → d < decision_count t → is_unfixed p d ≡ true → o < 255 →
    excess t l (with_option p d o) +ℤ pos (least_to (option_count t d) (penalty t l d)) ≡ excess t l p +ℤ pos (penalty t l d o)
excess_fixed t l p d o m u s = let a = least_sum_fixed t (penalty t l) p d o m u s in omega (arith, ints)

pub row_excess_fixed : (t : Table) (i : ℕ) (p : Partial) (d o : ℕ) → d < decision_count t → is_unfixed p d ≡ true → o < 255 →
    row_excess t i (with_option p d o) +ℤ pos (least_to (option_count t d) (spent_at t i d)) ≡ row_excess t i p +ℤ pos (spent_at t i d o)
row_excess_fixed t i p d o m u s = let a = least_sum_fixed t (spent_at t i) p d o m u s in omega (arith, ints)
