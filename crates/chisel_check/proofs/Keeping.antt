-- The bounds of what is kept, and of what it comes from.
use Rattle.std.proofs.Common.{◌≡◌, ◌≢◌, ℕ, zero, suc, ◌+◌, ◌<◌, ◌≤◌, ◌^◌, ◌==◌, true, false, List, [], ◌∷◌, length, get_or, set, refl, ap, subst, ◌∙◌, arith}
use Rattle.std.specs.Prelude.{slice_index}
use Rattle.std.specs.Borrow.{Bor}
use Rattle.std.proofs.lemmas.Bool.{eqb-true}
use Rattle.std.proofs.lemmas.List.{get_or-set_same, get_or-set_other, length-map, length-set}
use Rattle.std.proofs.Math.Nat.{mul-le-mul_right}
use Rattle.std.proofs.lemmas.Int.{ints}
use lib.IntN.{pos, neg_ℤ}
use lib.Signed.{◌≤ℤ◌}
use Rattle.chisel_table.specs.declared.table.Table.{Table}
use Rattle.chisel_table.specs.Closings.{vector_at}
use Rattle.chisel_table.specs.Grid.{place}
use Rattle.chisel_table.specs.Lagrangian.{IsVector, allowance, least_at, penalty}
use Rattle.chisel_table.specs.Tables.{decision_count, option_count, row_count}
use Rattle.chisel_table.specs.declared.partial.Partial.{Partial}
use Rattle.chisel_table.specs.Partials.{slot, is_unfixed}
use Rattle.chisel_table.specs.Sums.{least_to}
use Rattle.chisel_table.specs.Valid.{IsTable}
use Rattle.chisel_table.proofs.Sums.{by_test, differ}
use Rattle.chisel_table.proofs.Steps.{allowance_part, penalty_part}
use Rattle.chisel_cert.specs.Node.{vectors_of}
use Rattle.chisel_check.specs.declared.prices.Penalties.{Penalties}
use Rattle.chisel_check.specs.declared.prices.Prices.{Prices}
use Rattle.chisel_check.specs.declared.prices.TheConstants.{MAX_VECTORS}
use Rattle.chisel_check.specs.Prices.{ArePenalties, IsKept, AreKept}
use Rattle.chisel_check.specs.Walk.{IsPool}

pub allowance_bounds : (t : Table) (l : List ℕ) → IsTable t → IsVector t l → (neg_ℤ (pos (2 ^ 122)) ≤ℤ allowance t l) × (allowance t l ≤ℤ pos (2 ^ 122))
allowance_bounds t l h v =
    let part = allowance_part t l (row_count t) h v (omega arith) in
    let few : row_count t ≤ 2048 = h.few_rows in
    let scaled = mul-le-mul_right (2 ^ 111) few in
    (omega (arith, ints, part.0, scaled), omega (arith, ints, part.1, scaled))

-- ---- a decision of a part
pub least_at-unfixed : (t : Table) (w : ℕ → ℕ → ℕ) (p : Partial) (d : ℕ) → is_unfixed p d ≡ true → least_at t w p d ≡ least_to (option_count t d) (w d)
least_at-unfixed t w p d h = rw h refl

pub least_at-fixed : (t : Table) (w : ℕ → ℕ → ℕ) (p : Partial) (d : ℕ) → is_unfixed p d ≡ false → least_at t w p d ≡ w d (slot p d)
least_at-fixed t w p d h = rw h refl

-- the vector behind a reference of the pool is the one of its number
pub vector_of : (pool : List (Bor (List ℕ))) (j : ℕ) (e : Bor (List ℕ)) → j < length pool → vector_at (vectors_of pool) j ≡ (get_or pool j e).now
vector_of [] j e less = absurd (omega arith)
vector_of (v ∷ vs) zero e less = refl
vector_of (v ∷ vs) (suc j) e less = vector_of vs j e (omega arith)

pub pool_vector : (t : Table) (pool : List (Bor (List ℕ))) (j : ℕ) (e : Bor (List ℕ)) → j < length pool → IsPool t (vectors_of pool) → IsVector t (get_or pool j e).now
pool_vector t pool j e less h =
    let size = length-map pool (λ v. v.now) in subst (λ v. IsVector t v) (vector_of pool j e less) (h j (omega (arith, size)))

-- the penalty of an option, as the grid has it
pub penalty_kept : (t : Table) (kept : Penalties) (d o : ℕ) → IsTable t → ArePenalties t kept → d < decision_count t → o < option_count t d →
    (slice_index kept.grid (place d o) ≡ penalty t kept.vector.now d o) × (slice_index kept.grid (place d o) ≤ 2 ^ 113)
penalty_kept t kept d o table h k m =
    let e = h.grid.each d o k m in
    let b = penalty_part t kept.vector.now d o (row_count t) table h.vector k m (omega arith) in
    (e, omega (arith, e, b))

pub kept_more : (t : Table) (pool : List (List ℕ)) (k : ℕ) (all : List Prices) (new : Prices) → k < MAX_VECTORS →
    new.penalties.vector.now ≡ vector_at pool k → IsKept t new → AreKept t pool k all → AreKept t pool (k + 1) (set all k new)
kept_more t pool k all new room same at h =
    let inside : k < length all = let a = h.size in omega arith in
    record {
      size = length-set all k new ∙ h.size;
      vector = λ j less none. by_test (j == k)
          (λ q. let w = eqb-true j k q in rw w (ap (λ x. x.penalties.vector.now) (get_or-set_same all k new none inside) ∙ same))
          (λ q.
          let ne : j ≢ k = differ j k q in
          let under : j < k = omega arith in
          ap (λ x. x.penalties.vector.now) (get_or-set_other all k j new none ne) ∙ h.vector j under none);
      kept = λ j less none. by_test (j == k)
          (λ q. let w = eqb-true j k q in rw w (rw (get_or-set_same all k new none inside) at))
          (λ q.
          let ne : j ≢ k = differ j k q in
          let under : j < k = omega arith in
          rw (get_or-set_other all k j new none ne) (h.kept j under none));
    }
