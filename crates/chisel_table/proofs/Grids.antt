-- Grids of penalties: a row is added to what the options spend.
use Rattle.std.proofs.Common.{◌≡◌, ◌≢◌, ℕ, zero, suc, ◌+◌, ◌*◌, ◌≤◌, ◌<◌, List, [], length, get_or, set, take, replicate, refl, sym, ap, ◌∙◌, arith}
use Rattle.std.specs.Prelude.{slice_index, slice_index_or, ◌==◌, ◌^◌}
use Rattle.std.proofs.lemmas.Bool.{eqb-true}
use Rattle.std.proofs.lemmas.List.{get_or-set_same, get_or-set_other, get_or-take, length-take-le, take_all}
use Rattle.chisel_table.specs.declared.table.Table.{Table}
use Rattle.chisel_table.specs.declared.table.TheConstants.{MAX_OPTIONS}
use Rattle.chisel_table.specs.Grid.{place, Holds, penalty_to, HasRoom, Adds}
use Rattle.chisel_table.specs.Lagrangian.{IsVector}
use Rattle.chisel_table.specs.Tables.{decision_count, option_count, row_count, row_at, spent_at}
use Rattle.chisel_table.specs.Valid.{IsTable}
use Rattle.chisel_table.proofs.Sums.{by_test, differ, sum_none, sum_more}
use Rattle.chisel_table.proofs.Steps.{penalty_part}

-- ---- multiples are added

pub adds_none : (old spent : List ℕ) (from m : ℕ) → Adds old from m (take 0 spent) old
adds_none old spent from m = record { added = λ o l. absurd (omega arith); before = λ k l. refl; behind = λ k l. refl }

pub adds_all : (old new spent : List ℕ) (from m n : ℕ) → n ≡ length spent → Adds old from m (take n spent) new → Adds old from m spent new
adds_all old new spent from m n e h = let z : length spent ≤ n = omega arith in rw (take_all n spent z) at h

pub adds_more : (old new spent : List ℕ) (from m o : ℕ) → o < length spent → from + o < length new → Adds old from m (take o spent) new →
    Adds old from m (take (o + 1) spent) (set new (from + o) (get_or new (from + o) 0 + m * get_or spent o 0))
adds_more old new spent from m o l i h =
    let n = length-take-le o spent (omega arith) in
    let n' = length-take-le (o + 1) spent (omega arith) in
    let v = get_or new (from + o) 0 + m * get_or spent o 0 in
    let other : (k : ℕ) → k ≢ from + o → get_or (set new (from + o) v) k 0 ≡ get_or new k 0 = λ k ne. get_or-set_other new (from + o) k v 0 ne in
    record {
      added = λ k q. by_test (k == o)
          (λ e. let w = eqb-true k o e in
          let a = get_or-set_same new (from + o) v 0 i in
          let b = h.behind (from + o) (omega arith) in
          let t = ap (λ x. m * x) (get_or-take (o + 1) spent o 0 (omega arith)) in
          rw w (omega (arith, a, b, t)))
          (λ e. let ne : k ≢ o = differ k o e in
          let s : k < o = omega arith in
          let a = other k (omega arith) in
          let b = other (from + k) (omega arith) in
          let c = h.added k (omega arith) in
          let t = ap (λ x. m * x) (get_or-take o spent k 0 s) in
          let u = ap (λ x. m * x) (get_or-take (o + 1) spent k 0 (omega arith)) in
          omega (arith, b, c, t, u));
      before = λ k q. other k (omega arith) ∙ h.before k q;
      behind = λ k q. other k (omega arith) ∙ h.behind k (omega arith);
    }

-- the next multiple fits
pub adds_fits : (old new spent : List ℕ) (from m o limit : ℕ) → o < length spent → HasRoom old from m spent limit → Adds old from m (take o spent) new →
    get_or new (from + o) 0 + m * get_or spent o 0 < limit
adds_fits old new spent from m o limit l r h =
    let n = length-take-le o spent (omega arith) in
    let a = h.behind (from + o) (omega arith) in
    let b = r.below o l in
    omega (arith, a, b)

-- ---- a row is added

-- the options of the first d decisions have what they spend in the row, and the others don't
pub record HalfAdded (t : Table) (l : List ℕ) (row d : ℕ) (grid : List ℕ) : Type 0 where
  pub size : MAX_OPTIONS * decision_count t ≤ length grid
  pub done : (e o : ℕ) → e < d → e < decision_count t → o < option_count t e → slice_index grid (place e o) ≡ penalty_to t l (row + 1) e o
  pub left : (e o : ℕ) → d ≤ e → e < decision_count t → o < option_count t e → slice_index grid (place e o) ≡ penalty_to t l row e o

pub half_none : (t : Table) (l : List ℕ) (row : ℕ) (grid : List ℕ) → Holds t (penalty_to t l row) grid → HalfAdded t l row 0 grid
half_none t l row grid h = record { size = h.size; done = λ e o k m n. absurd (omega arith); left = λ e o k m n. h.each e o m n }

pub half_all : (t : Table) (l : List ℕ) (row n : ℕ) (grid : List ℕ) → n ≡ decision_count t → HalfAdded t l row n grid → Holds t (penalty_to t l (row + 1)) grid
half_all t l row n grid e h = record { size = h.size; each = λ d o k m. h.done d o (omega arith) k m }

-- what the next decision's options spend in the row
module _ (t : Table) (l : List ℕ) (row d : ℕ) (grid spent : List ℕ) (table : IsTable t) (vector : IsVector t l) (r : row < row_count t) (k : d < decision_count t)
    (is : spent ≡ slice_index_or (row_at t row).spent d []) (h : HalfAdded t l row d grid) where
  size : length spent ≡ option_count t d
  size = ap length is ∙ table.shapes row d r k

  few : option_count t d ≤ MAX_OPTIONS
  few = table.few_options d k

  more : (o : ℕ) → penalty_to t l (row + 1) d o ≡ penalty_to t l row d o + slice_index l row * slice_index spent o
  more o =
      sum_more row (λ i. slice_index l i * spent_at t i d o)
      ∙ ap (λ (xs : List ℕ). penalty_to t l row d o + slice_index l row * slice_index xs o) (sym is)

  pub half_room : HasRoom grid (MAX_OPTIONS * d) (slice_index l row) spent (2 ^ 128)
  half_room = record {
    inside = let a = size in let b = few in let c = h.size in omega arith;
    below = λ o m.
        let n : o < option_count t d = let a = size in omega arith in
        let a = penalty_part t l d o (row + 1) table vector k n (omega arith) in
        let b = more o in
        let c = h.left d o (omega arith) k n in
        omega (arith, a, b, c);
  }

  pub half_more : (new : List ℕ) → length new ≡ length grid → Adds grid (MAX_OPTIONS * d) (slice_index l row) spent new → HalfAdded t l row (d + 1) new
  half_more new even a = record {
    size = let a = h.size in omega arith;
    done = λ e o m n q. by_test (e == d)
        (λ z. let w = eqb-true e d z in
        rw w (
        let q' : o < option_count t d = rw w at q in
        let x = a.added o (let b = size in omega arith) in
        let y = h.left d o (omega arith) k q' in
        let b = more o in
        omega (arith, x, y, b)))
        (λ z. let ne : e ≢ d = differ e d z in
        let under : e < d = omega arith in
        let c = table.few_options e n in
        a.before (place e o) (omega arith) ∙ h.done e o under n q);
    left = λ e o m n q.
        a.behind (place e o) (let b = size in let c = few in omega arith) ∙ h.left e o (omega arith) n q;
  }

-- without a multiplier a row adds nothing
pub row_without : (t : Table) (l : List ℕ) (row : ℕ) (grid : List ℕ) → slice_index l row ≡ 0 → Holds t (penalty_to t l row) grid → Holds t (penalty_to t l (row + 1)) grid
row_without t l row grid z h = record {
  size = h.size;
  each = λ d o k m.
      let a = h.each d o k m in
      let b = sum_more row (λ i. slice_index l i * spent_at t i d o) in
      let c = ap (λ x. x * spent_at t row d o) z in
      omega (arith, a, b, c);
}

-- zeros, and nothing past them
pub zeros : (n i : ℕ) → ◌≡◌ {A = ℕ} (get_or (replicate n 0) i 0) 0
zeros zero i = refl
zeros (suc n) zero = refl
zeros (suc n) (suc i) = zeros n i

-- a grid of zeros
pub grid_zeros : (t : Table) (l grid : List ℕ) → MAX_OPTIONS * decision_count t ≤ length grid → ((k : ℕ) → slice_index grid k ≡ 0) →
    Holds t (penalty_to t l 0) grid
grid_zeros t l grid e z = record {
  size = e;
  each = λ d o k m. z (place d o) ∙ sym (sum_none (λ i. slice_index l i * spent_at t i d o));
}
