-- The bounds where nothing is fixed, from the penalties of a grid.
use Rattle.std.proofs.Common.{◌≡◌, ℕ, ◌+◌, ◌*◌, ◌<◌, ◌≤◌, List, [], length, sym, ap, ◌∙◌, ◌==◌, arith}
use Rattle.std.specs.Prelude.{slice_index, slice_index_or, slice_range, if◌then◌else◌}
use Rattle.std.proofs.lemmas.List.{get_or-replicate}
use Rattle.chisel_table.specs.declared.lagrangian.TheConstants.{ENERGY_WEIGHT}
use Rattle.chisel_table.specs.declared.table.Table.{Table}
use Rattle.chisel_table.specs.declared.table.TheConstants.{MAX_OPTIONS}
use Rattle.chisel_table.specs.Grid.{place, Holds}
use Rattle.chisel_table.specs.Lagrangian.{least_at, least_sum, penalty, price}
use Rattle.chisel_table.specs.Partials.{nothing_fixed}
use Rattle.chisel_table.specs.Sums.{least_to, sum_to}
use Rattle.chisel_table.specs.Tables.{decision_count, energy_at, option_count}
use Rattle.chisel_table.proofs.Sums.{sum_same}
use Rattle.chisel_bound.specs.Weights.{least_on, weighed, IsLeastPlace}
use Rattle.chisel_bound.proofs.Adding.{least_agree}
use Rattle.chisel_bound.proofs.Ascents.{part_at}
use Rattle.chisel_bound.proofs.LeastPlaces.{least_value}

-- the option of the least weight of a decision weighs as little as any
pub least_weighed : (t : Table) (scale : ℕ) (grid : List ℕ) (d : ℕ) (energies : List ℕ) (k : ℕ) → energies ≡ slice_index_or t.energies d [] →
    IsLeastPlace (length energies) (weighed scale energies (slice_range grid (MAX_OPTIONS * d) (MAX_OPTIONS * d + length energies))) k →
    weighed scale energies (slice_range grid (MAX_OPTIONS * d) (MAX_OPTIONS * d + length energies)) k ≡ least_on t scale grid d
least_weighed t scale grid d energies k e h =
    let n = length energies in
    let from = MAX_OPTIONS * d in
    let f : ℕ → ℕ = weighed scale energies (slice_range grid from (from + n)) in
    let g : ℕ → ℕ = λ o. scale * energy_at t d o + slice_index grid (place d o) in
    let same : (o : ℕ) → o < n → f o ≡ g o = λ o l i. scale * slice_index (e i) o + part_at grid from n o l i in
    least_value n f k h ∙ least_agree n f g same ∙ ap (λ (es : List ℕ). least_to (length es) g) e

-- where nothing is fixed, each decision has all of its options
all_left : (t : Table) (w : ℕ → ℕ → ℕ) (d : ℕ) → decision_count t ≤ 256 → d < decision_count t → least_at t w (nothing_fixed t) d ≡ least_to (option_count t d) (w d)
all_left t w d few l =
    ap (λ x. if x == 255 then least_to (option_count t d) (w d) else w d x) (get_or-replicate 256 d 255 0 (omega arith))

module _ (t : Table) (l grid : List ℕ) (few : decision_count t ≤ 256) (h : Holds t (penalty t l) grid) where
  pub prices_on : sum_to (decision_count t) (least_on t ENERGY_WEIGHT grid) ≡ least_sum t (price t l) (nothing_fixed t)
  prices_on = sum_same (decision_count t) (least_on t ENERGY_WEIGHT grid) (least_at t (price t l) (nothing_fixed t))
      (λ d m. least_agree (option_count t d) (λ o. ENERGY_WEIGHT * energy_at t d o + slice_index grid (place d o)) (price t l d)
      (λ o k. ap (λ x. ENERGY_WEIGHT * energy_at t d o + x) (h.each d o m k))
      ∙ sym (all_left t (price t l) d few m))

  pub penalties_on : sum_to (decision_count t) (least_on t 0 grid) ≡ least_sum t (penalty t l) (nothing_fixed t)
  penalties_on = sum_same (decision_count t) (least_on t 0 grid) (least_at t (penalty t l) (nothing_fixed t))
      (λ d m. least_agree (option_count t d) (λ o. 0 * energy_at t d o + slice_index grid (place d o)) (penalty t l d)
      (λ o k. let e = h.each d o m k in omega arith)
      ∙ sym (all_left t (penalty t l) d few m))
