-- Blocks of small numbers make a valid table.
use Rattle.std.proofs.Common.{◌≡◌, ℕ, ◌+◌, ◌≤◌, ◌<◌, ◌^◌, List, [], ◌∷◌, ◌++◌, length, refl, arith}
use Rattle.std.specs.Prelude.{slice_index, slice_index_or, nat_lt}
use Rattle.std.proofs.lemmas.Bool.{ltb-true, ltb-false}
use Rattle.std.proofs.lemmas.Int.{ints}
use Rattle.std.proofs.lemmas.List.{get_or_append_left, get_or_push, length_push}
use Rattle.std.proofs.Math.Nat.{mul-le-mul_right}
use lib.IntN.{pos}
use Rattle.chisel_table.specs.declared.table.Row.{Row}
use Rattle.chisel_table.specs.declared.table.Table.{Table}
use Rattle.chisel_table.specs.Tables.{decision_count, energy_at}
use Rattle.chisel_table.specs.Valid.{IsTable}
use Rattle.chisel_table.proofs.Sums.{by_test, sum_bound}
use Rattle.chisel_bench.specs.declared.made.Shape.{Shape}
use Rattle.chisel_bench.specs.Made.{IsShape, AreNumbers, IsBlock}

pub numbers_none : AreNumbers 0 []
numbers_none = record { size = refl; small = λ k l. absurd (omega arith) }

pub numbers_more : (n x : ℕ) (xs : List ℕ) → x ≤ 2 ^ 20 → AreNumbers n xs → AreNumbers (n + 1) (xs ++ x ∷ [])
numbers_more n x xs l h = record {
  size = let a = length_push xs x in let b = h.size in omega arith;
  small = λ k m. by_test (nat_lt k n)
      (λ e. let q = ltb-true k n e in let s = h.size in let i : k < length xs = omega arith in rw (get_or_append_left xs (x ∷ []) 0 k i) (h.small k q))
      (λ e. let q = ltb-false k n e in let w : k ≡ n = omega arith in rw (w, get_or_push xs x 0 n h.size) l);
}

pub block_none : (options : ℕ) → IsBlock options 0 []
block_none options = record { size = refl; each = λ k l. absurd (omega arith) }

pub block_more : (options n : ℕ) (x : List ℕ) (xs : List (List ℕ)) → AreNumbers options x → IsBlock options n xs → IsBlock options (n + 1) (xs ++ x ∷ [])
block_more options n x xs l h = record {
  size = let a = length_push xs x in let b = h.size in omega arith;
  each = λ k m. by_test (nat_lt k n)
      (λ e. let q = ltb-true k n e in let s = h.size in let i : k < length xs = omega arith in rw (get_or_append_left xs (x ∷ []) [] k i) (h.each k q))
      (λ e. let q = ltb-false k n e in let w : k ≡ n = omega arith in rw (w, get_or_push xs x [] n h.size) l);
}

-- a row of the shape
pub record IsRow (s : Shape) (r : Row) : Type 0 where
  pub budget : r.budget ≡ pos s.budget
  pub spent : IsBlock s.options s.decisions r.spent

none : Row
none = record { budget = pos 0; spent = [] }

pub record AreRows (s : Shape) (n : ℕ) (rs : List Row) : Type 0 where
  pub size : length rs ≡ n
  pub each : (i : ℕ) → i < n → IsRow s (slice_index_or rs i (record { budget = pos 0; spent = [] }))

pub rows_none : (s : Shape) → AreRows s 0 []
rows_none s = record { size = refl; each = λ k l. absurd (omega arith) }

pub rows_more : (s : Shape) (n : ℕ) (x : Row) (xs : List Row) → IsRow s x → AreRows s n xs → AreRows s (n + 1) (xs ++ x ∷ [])
unfolding none
rows_more s n x xs l h = record {
  size = let a = length_push xs x in let b = h.size in omega arith;
  each = λ k m. by_test (nat_lt k n)
      (λ e. let q = ltb-true k n e in let s = h.size in let i : k < length xs = omega arith in rw (get_or_append_left xs (x ∷ []) none k i) (h.each k q))
      (λ e. let q = ltb-false k n e in let w : k ≡ n = omega arith in rw (w, get_or_push xs x none n h.size) l);
}

pub table_valid : (s : Shape) (t : Table) → IsShape s → t.fixed ≡ 0 → IsBlock s.options s.decisions t.energies → AreRows s s.rows t.rows → IsTable t
table_valid s t h z b r =
    let n = b.size in
    let m = r.size in
    record {
      some_decisions = let a = h.some_decisions in omega arith;
      few_decisions = let a = h.few_decisions in omega arith;
      some_options = λ d l. let a = (b.each d (omega arith)).size in let e = h.some_options in omega arith;
      few_options = λ d l. let a = (b.each d (omega arith)).size in let e = h.few_options in omega arith;
      some_rows = let a = h.some_rows in omega arith;
      few_rows = let a = h.few_rows in omega arith;
      widths = λ i l. let a = (r.each i (omega arith)).spent.size in omega arith;
      shapes = λ i d l k.
          let a = (r.each i (omega arith)).spent.each d (omega arith) in let s = a.size in
          let e = (b.each d (omega arith)).size in omega arith;
      energies = λ c k.
          let a = sum_bound (decision_count t) (2 ^ 20) (λ d. energy_at t d (slice_index c d)) (λ d l.
          let f = b.each d (omega arith) in let e = f.size in let o = k.in_range d (omega arith) in f.small (slice_index c d) (omega arith)) in
          let f = h.few_decisions in
          let g : decision_count t ≤ 256 = omega arith in
          let x = mul-le-mul_right (2 ^ 20) g in
          omega (arith, a, x);
      debits = λ i d o l k q.
          let f = (r.each i (omega arith)).spent.each d (omega arith) in
          let e = (b.each d (omega arith)).size in
          let x = f.small o (omega arith) in omega arith;
      least_budgets = λ i l. let e = (r.each i (omega arith)).budget in omega (arith, ints, e);
      greatest_budgets = λ i l. let e = (r.each i (omega arith)).budget in let f = h.budget in omega (arith, ints, e);
    }
