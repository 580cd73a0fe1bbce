-- The bounds that keep the sums of a valid table in range.
use Rattle.std.specs.Prelude.{slice_index}
use Rattle.std.proofs.Common.{◌≡◌, ℕ, zero, suc, ◌≤◌, ◌<◌, refl, arith, ◌+◌, ◌*◌, List, ◌^◌}
use Rattle.std.proofs.Math.IntN.{pos-*ℤ-pos, pos-*ℤ-negsuc}
use Rattle.std.proofs.Math.Nat.{mul-le-mul_right}
use Rattle.std.proofs.lemmas.Int.{ints, to_z_pos, to_z-of_z}
use Rattle.std.proofs.lemmas.Nat.{mul-le}
use lib.IntN.{ℤ, pos, negsuc, ◌*ℤ◌, neg_ℤ}
use lib.Signed.{◌≤ℤ◌}
use mir.Syntax.{w128}
use mir.Val.{to_z, of_z, SFits}
use Rattle.chisel_table.specs.declared.partial.Partial.{Partial}
use Rattle.chisel_table.specs.declared.table.Table.{Table}
use Rattle.chisel_table.specs.Choices.{IsChoice}
use Rattle.chisel_table.specs.Lagrangian.{weight, IsVector, penalty, least_sum}
use Rattle.chisel_table.specs.Sums.{sum_to, int_sum_to}
use Rattle.chisel_table.specs.Tables.{decision_count, option_count, row_count, energy_at, budget_at, spent_at}
use Rattle.chisel_table.specs.Valid.{IsTable}
use Rattle.chisel_table.proofs.Sums.{sum_more, sum_part, sum_bound}

-- one more term of a choice's energy
pub energy_part : (t : Table) (c : List ℕ) (d : ℕ) → IsTable t → IsChoice t c → d < decision_count t →
    t.fixed + (sum_to d (λ k. energy_at t k (slice_index c k)) + energy_at t d (slice_index c d)) < 2 ^ 64
energy_part t c d h k l =
    let a = h.energies c k in
    let b = sum_part (d + 1) (decision_count t) (λ k. energy_at t k (slice_index c k)) (omega arith) in
    let e = sum_more d (λ k. energy_at t k (slice_index c k)) in
    omega arith

-- one more term of what a choice spends in a row
pub spent_part : (t : Table) (i : ℕ) (c : List ℕ) (d : ℕ) → IsTable t → i < row_count t → IsChoice t c → d ≤ decision_count t →
    sum_to d (λ k. spent_at t i k (slice_index c k)) ≤ 2 ^ 70
spent_part t i c d h l k m =
    let few = h.few_decisions in
    let a = sum_bound d (2 ^ 62) (λ k. spent_at t i k (slice_index c k))
    (λ x y. h.debits i x (slice_index c x) l (omega arith) (k.in_range x (omega arith))) in
    let g : d ≤ 256 = omega arith in
    let b = mul-le-mul_right (2 ^ 62) g in
    omega arith

-- energies and debits under multipliers stay far below 2 ^ 127
pub penalty_part : (t : Table) (l : List ℕ) (d o n : ℕ) → IsTable t → IsVector t l → d < decision_count t → o < option_count t d → n ≤ row_count t →
    sum_to n (λ i. slice_index l i * spent_at t i d o) ≤ 2 ^ 113
penalty_part t l d o n h v m k r =
    let few = h.few_rows in
    let a = sum_bound n (2 ^ 102) (λ i. slice_index l i * spent_at t i d o)
    (λ i x. mul-le (slice_index l i) (spent_at t i d o) (2 ^ 40) (2 ^ 62) (v.in_range i (omega arith)) (h.debits i d o (omega arith) m k)) in
    let g : n ≤ 2048 = omega arith in
    let b = mul-le-mul_right (2 ^ 102) g in
    omega arith

pub energy_bound : (scale e : ℕ) → scale ≤ 2 ^ 16 → e < 2 ^ 64 → scale * e ≤ 2 ^ 80
energy_bound scale e h k = mul-le scale e (2 ^ 16) (2 ^ 64) h (omega arith)

-- a multiplier times a budget
pub product_bound : (l : ℕ) (b : ℤ) → l ≤ 2 ^ 40 → neg_ℤ (pos (2 ^ 71)) ≤ℤ b → b ≤ℤ pos (2 ^ 24) →
    (neg_ℤ (pos (2 ^ 111)) ≤ℤ (pos l *ℤ b)) × ((pos l *ℤ b) ≤ℤ pos (2 ^ 111))
product_bound l (pos b) h k m =
    let a = mul-le l b (2 ^ 40) (2 ^ 71) h (omega (arith, ints)) in
    let e = pos-*ℤ-pos l b in
    (rw e (omega (arith, ints)), rw e (omega (arith, ints)))
product_bound l (negsuc b) h k m =
    let a = mul-le l (suc b) (2 ^ 40) (2 ^ 71) h (omega (arith, ints)) in
    let e = pos-*ℤ-negsuc l b in
    (rw e (omega (arith, ints)), rw e (omega (arith, ints)))

pub allowance_part : (t : Table) (l : List ℕ) (n : ℕ) → IsTable t → IsVector t l → n ≤ row_count t →
    (neg_ℤ (pos (n * 2 ^ 111)) ≤ℤ int_sum_to n (λ i. pos (slice_index l i) *ℤ budget_at t i))
    × (int_sum_to n (λ i. pos (slice_index l i) *ℤ budget_at t i) ≤ℤ pos (n * 2 ^ 111))
unfolding int_sum_to
allowance_part t l zero h v r = (omega (arith, ints), omega (arith, ints))
allowance_part t l (suc n) h v r =
    let a = allowance_part t l n h v (omega arith) in
    let b = product_bound (slice_index l n) (budget_at t n) (v.in_range n (omega arith)) (h.least_budgets n (omega arith)) (h.greatest_budgets n (omega arith)) in
    (omega (arith, ints), omega (arith, ints))

pub charge_is : (l : ℕ) (b : ℤ) → l ≤ 2 ^ 40 → SFits w128 b → to_z w128 l *ℤ to_z w128 (of_z w128 b) ≡ pos l *ℤ b
charge_is l b h f = rw (to_z_pos w128 l (omega arith), to_z-of_z w128 b f) refl

-- on a scale of zero the weights are the penalties
pub without_energy : (t : Table) (l : List ℕ) (p : Partial) → least_sum t (weight t 0 l) p ≡ least_sum t (penalty t l) p
without_energy t l p = λ i. least_sum t (λ d o. plain (energy_at t d o) (penalty t l d o) i) p
  where
    plain : (e s : ℕ) → 0 * e + s ≡ s
    plain e s = omega arith
