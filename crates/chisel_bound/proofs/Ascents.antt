-- The rounds of the ascent.
use Rattle.std.proofs.Common.{◌≡◌, ◌≢◌, ℕ, zero, suc, ◌+◌, ◌*◌, ◌/◌, ◌≤◌, ◌<◌, max, List, [], ◌∷◌, ◌++◌, length, set, map, replicate, refl, sym, ap, ◌∙◌, arith, add-one}
use Rattle.std.specs.Prelude.{slice_index, slice_range, ◌==◌, int_lt}
use Rattle.std.proofs.lemmas.Bool.{eqb-true}
use Rattle.std.proofs.lemmas.List.{get_or-set_same, get_or-set_other, length-set, length-replicate}
use Rattle.std.proofs.lemmas.List.Edits.{get_or-between}
use Rattle.std.proofs.Math.Nat.{div-le_self}
use lib.IntN.{ℤ, pos}
use Rattle.chisel_table.specs.declared.lagrangian.TheConstants.{ENERGY_WEIGHT, MAX_MULTIPLIER}
use Rattle.chisel_table.specs.declared.table.Table.{Table}
use Rattle.chisel_table.specs.declared.table.TheConstants.{MAX_DECISIONS}
use Rattle.chisel_table.specs.Choices.{spent}
use Rattle.chisel_table.specs.Closings.{vector_at}
use Rattle.chisel_table.specs.Lagrangian.{IsVector, penalty, price}
use Rattle.chisel_table.specs.Tables.{decision_count, option_count, row_count, energy_at, spent_at}
use Rattle.chisel_table.specs.Valid.{IsTable}
use Rattle.chisel_table.proofs.Sums.{by_test, differ, sum_same}
use Rattle.chisel_table.proofs.Steps.{penalty_part}
use Rattle.chisel_table.specs.Grid.{place, Holds}
use Rattle.chisel_bound.specs.Weights.{least_place, IsLeastPlace}
use Rattle.chisel_bound.specs.Ascent.{greatest_to, first_step, step, cheapest, gap, moved, next_vector, vector_after, pool_rounds, ascended, AreFirstSteps, AreOptions, IsPenaltyGrid, AreCheapest}
use Rattle.chisel_bound.specs.Pool.{IsPool, BeginsWithZeros}
use Rattle.chisel_bound.proofs.Lists.{length_listed, listed_at, listed_same}
use Rattle.chisel_table.proofs.Grids.{zeros}
use Rattle.chisel_bound.proofs.LeastPlaces.{least_place_is, least_place_agree}

-- ---- the spread of energies

pub greatest_one : (f : ℕ → ℕ) → greatest_to 1 f ≡ f 0
unfolding greatest_to
greatest_one f = omega arith

pub greatest_more : (n : ℕ) (f : ℕ → ℕ) → greatest_to (n + 1) f ≡ max (greatest_to n f) (f n)
unfolding greatest_to
greatest_more n f = rw add-one refl

-- ---- every multiplier is in range

pub step_below : (t : Table) (r i : ℕ) → step t r i ≤ MAX_MULTIPLIER
step_below t r i = let a = div-le_self (first_step t i) r in omega arith

pub moved_below : (n by : ℕ) (g : ℤ) → n ≤ MAX_MULTIPLIER → moved n by g ≤ MAX_MULTIPLIER
moved_below n by g h = by_test (int_lt (pos 0) g)
    (λ a. rw a (omega arith))
    (λ a. rw a (by_test (int_lt g (pos 0)) (λ b. rw b (omega arith)) (λ b. rw b (omega arith))))

pub next_is_vector : (t : Table) (r : ℕ) (l : List ℕ) → IsVector t l → IsVector t (next_vector t r l)
next_is_vector t r l h = record {
  size = length_listed (row_count t) _;
  in_range = λ i k. rw (listed_at (row_count t) (λ i. moved (slice_index l i) (step t r i) (gap t l i)) i 0 k)
      (moved_below (slice_index l i) (step t r i) (gap t l i) (h.in_range i k));
}

pub after_none : (t : Table) → vector_after t 0 ≡ replicate (row_count t) 0
unfolding vector_after
after_none t = refl

pub after_more : (t : Table) (r : ℕ) → vector_after t (r + 1) ≡ next_vector t (r + 1) (vector_after t r)
unfolding vector_after
after_more t r = rw add-one refl

pub after_is_vector : (t : Table) (r : ℕ) → IsVector t (vector_after t r)
unfolding vector_after
after_is_vector t zero = record {
  size = length-replicate (row_count t) 0;
  in_range = λ i k. rw (zeros (row_count t) i) (omega arith);
}
after_is_vector t (suc r) = next_is_vector t (suc r) (vector_after t r) (after_is_vector t r)

-- ---- the pool

vectors_at : (t : Table) (rs : List ℕ) (j : ℕ) → j < length (map (vector_after t) rs) → IsVector t (vector_at (map (vector_after t) rs) j)
vectors_at t [] j l = absurd (omega arith)
vectors_at t (r ∷ rs) zero l = after_is_vector t r
vectors_at t (r ∷ rs) (suc j) l = vectors_at t rs j (omega arith)

pub ascended_pool : (t : Table) → IsPool t (ascended t)
ascended_pool t = record { few = omega arith; vectors = λ j l. vectors_at t pool_rounds j l }

pub ascended_zeros : (t : Table) → BeginsWithZeros (ascended t)
ascended_zeros t = record { some = omega arith; zeros = λ i. ap (λ l. slice_index l i) (after_none t) ∙ zeros (row_count t) i }

-- five vectors that are put behind one another
pub pool_is : (t : Table) (v0 v1 v2 v3 v4 v5 : List (List ℕ)) (a b c d e : List ℕ) → v0 ≡ [] →
    v1 ≡ v0 ++ a ∷ [] → v2 ≡ v1 ++ b ∷ [] → v3 ≡ v2 ++ c ∷ [] → v4 ≡ v3 ++ d ∷ [] → v5 ≡ v4 ++ e ∷ [] →
    a ≡ vector_after t 0 → b ≡ vector_after t 8 → c ≡ vector_after t 16 → d ≡ vector_after t 32 → e ≡ vector_after t 64 → v5 ≡ ascended t
pool_is t v0 v1 v2 v3 v4 v5 a b c d e n p q r s u x y z w o =
    u
    ∙ ap (λ v. v ++ e ∷ []) (s ∙ ap (λ v. v ++ d ∷ []) (r ∙ ap (λ v. v ++ c ∷ []) (q ∙ ap (λ v. v ++ b ∷ []) (p ∙ ap (λ v. v ++ a ∷ []) n))))
    ∙ (λ i. x i ∷ y i ∷ z i ∷ w i ∷ o i ∷ [])

-- ---- the cheapest options

pub penalty_grid : (t : Table) (l grid : List ℕ) → IsTable t → IsVector t l → Holds t (penalty t l) grid → IsPenaltyGrid t grid
penalty_grid t l grid table v h = record {
  size = h.size;
  below = λ d o k m. rw (h.each d o k m) (penalty_part t l d o (row_count t) table v k m (omega arith));
}

-- the penalties of a decision, as a part of the grid
pub part_at : (grid : List ℕ) (from n o : ℕ) → o < n → slice_index (slice_range grid from (from + n)) o ≡ slice_index grid (from + o)
part_at grid from n o l = get_or-between grid from (from + n) o 0 (omega arith)

-- the first d decisions have their cheapest options
pub record HalfChosen (t : Table) (grid : List ℕ) (d : ℕ) (options : List ℕ) : Type 0 where
  pub size : length options ≡ MAX_DECISIONS
  pub done : (e : ℕ) → e < d → IsLeastPlace (option_count t e) (λ o. ENERGY_WEIGHT * energy_at t e o + slice_index grid (place e o)) (slice_index options e)

pub chosen_more : (t : Table) (grid options : List ℕ) (d o : ℕ) → d < MAX_DECISIONS → HalfChosen t grid d options →
    IsLeastPlace (option_count t d) (λ o. ENERGY_WEIGHT * energy_at t d o + slice_index grid (place d o)) o → HalfChosen t grid (d + 1) (set options d o)
chosen_more t grid options d o l h k =
    let inside : d < length options = let a = h.size in omega arith in
    record {
      size = length-set options d o ∙ h.size;
      done = λ e m. by_test (e == d)
          (λ q. let w = eqb-true e d q in rw (w, get_or-set_same options d o 0 inside) k)
          (λ q. let ne : e ≢ d = differ e d q in
          let under : e < d = omega arith in
          rw (get_or-set_other options d e o 0 ne) (h.done e under));
    }

pub chosen_all : (t : Table) (grid options : List ℕ) (n : ℕ) → n ≡ decision_count t → HalfChosen t grid n options → AreCheapest t grid options
chosen_all t grid options n e h = record { size = h.size; each = λ d l. h.done d (omega arith) }

pub cheapest_in_range : (t : Table) (grid options : List ℕ) → AreCheapest t grid options → AreOptions t options
cheapest_in_range t grid options h = record { in_range = λ d l. (h.each d l).inside }

cheapest_at : (t : Table) (l : List ℕ) (d : ℕ) → d < decision_count t → slice_index (cheapest t l) d ≡ least_place (option_count t d) (price t l d)
unfolding cheapest
cheapest_at t l d k = listed_at (decision_count t) (λ d. least_place (option_count t d) (price t l d)) d 0 k

-- what they spend
pub cheapest_spent : (t : Table) (l grid options : List ℕ) (i : ℕ) → Holds t (penalty t l) grid → AreCheapest t grid options →
    spent t i options ≡ spent t i (cheapest t l)
cheapest_spent t l grid options i g h =
    sum_same (decision_count t) (λ d. spent_at t i d (slice_index options d)) (λ d. spent_at t i d (slice_index (cheapest t l) d)) (λ d k.
    let a = least_place_agree (option_count t d) (λ o. ENERGY_WEIGHT * energy_at t d o + slice_index grid (place d o)) (price t l d) (slice_index options d)
    (λ o m. ap (λ x. ENERGY_WEIGHT * energy_at t d o + x) (g.each d o k m)) (h.each d k) in
    ap (spent_at t i d) (sym (least_place_is (option_count t d) (price t l d) (slice_index options d) a) ∙ sym (cheapest_at t l d k)))

-- ---- a round

-- the first i multipliers are those of the next round
pub record HalfMoved (t : Table) (r : ℕ) (old : List ℕ) (i : ℕ) (new : List ℕ) : Type 0 where
  pub size : length new ≡ row_count t
  pub done : (k : ℕ) → k < i → slice_index new k ≡ moved (slice_index old k) (step t r k) (gap t old k)
  pub left : (k : ℕ) → i ≤ k → slice_index new k ≡ slice_index old k

pub moved_none : (t : Table) (r : ℕ) (l : List ℕ) → IsVector t l → HalfMoved t r l 0 l
moved_none t r l h = record { size = h.size; done = λ k m. absurd (omega arith); left = λ k m. refl }

pub moved_more : (t : Table) (r i x : ℕ) (old new : List ℕ) → i < row_count t → x ≡ moved (slice_index old i) (step t r i) (gap t old i) →
    HalfMoved t r old i new → HalfMoved t r old (i + 1) (set new i x)
moved_more t r i x old new l e h =
    let inside : i < length new = let a = h.size in omega arith in
    record {
      size = length-set new i x ∙ h.size;
      done = λ k m. by_test (k == i)
          (λ q. let w = eqb-true k i q in rw w (get_or-set_same new i x 0 inside ∙ e))
          (λ q. let ne : k ≢ i = differ k i q in
          let under : k < i = omega arith in
          get_or-set_other new i k x 0 ne ∙ h.done k under);
      left = λ k m.
          let ne : k ≢ i = omega arith in
          get_or-set_other new i k x 0 ne ∙ h.left k (omega arith);
    }

pub moved_all : (t : Table) (r n : ℕ) (old new : List ℕ) → n ≡ row_count t → HalfMoved t r old n new → new ≡ next_vector t r old
moved_all t r n old new e h =
    listed_same 0 (row_count t) (λ i. moved (slice_index old i) (step t r i) (gap t old i)) new h.size (λ k l. h.done k (omega arith))

-- the step of a row in a round, from its step in the first
pub step_is : (t : Table) (steps : List ℕ) (r i : ℕ) → AreFirstSteps t steps → i < row_count t → max (slice_index steps i / r) 1 ≡ step t r i
step_is t steps r i h l = ap (λ x. max (x / r) 1) (ap (λ xs. slice_index xs i) h ∙ listed_at (row_count t) (first_step t) i 0 l)
