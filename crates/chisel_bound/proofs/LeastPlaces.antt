-- The first place of the least of some numbers.
use Rattle.std.proofs.Common.{◌≡◌, ◌≢◌, ℕ, zero, suc, ◌+◌, ◌≤◌, ◌<◌, ap, arith, add-one}
use Rattle.std.specs.Prelude.{◌==◌, unwrap_or}
use Rattle.std.proofs.lemmas.Bool.{eqb-true, eq-eqb, ne_eqb}
use Rattle.chisel_table.specs.Sums.{least_to}
use Rattle.chisel_table.proofs.Sums.{by_test, differ, first_is, least_below, least_more, least_one}
use Rattle.chisel_bound.specs.Weights.{least_place, IsLeastPlace}

-- ---- the first place of the least

least_taken : (n : ℕ) (f : ℕ → ℕ) (k : ℕ) → k < n → ((j : ℕ) → j < n → f k ≤ f j) → f k ≤ least_to n f
least_taken n f k l h = go n (omega arith) (λ j m. h j m)
  where
    go : (m : ℕ) → 1 ≤ m → ((j : ℕ) → j < m → f k ≤ f j) → f k ≤ least_to m f
    go zero q g = absurd (omega arith)
    go (suc m) q g = by_test (m == 0)
        (λ e. let w = eqb-true m 0 e in rw (w, least_one f) (g 0 (omega arith)))
        (λ e. let ne : m ≢ 0 = differ m 0 e in
        let a = least_more m f (omega arith) in
        let b = go m (omega arith) (λ j x. g j (omega arith)) in
        let c = g m (omega arith) in
        rw (← add-one) (omega (arith, a, b, c)))

-- the least value is that at its place
pub least_value : (n : ℕ) (f : ℕ → ℕ) (k : ℕ) → IsLeastPlace n f k → f k ≡ least_to n f
least_value n f k h =
    let a = least_below n f k h.inside in
    let b = least_taken n f k h.inside h.least in
    omega arith

pub least_place_is : (n : ℕ) (f : ℕ → ℕ) (k : ℕ) → IsLeastPlace n f k → least_place n f ≡ k
least_place_is n f k h =
    ap (λ r. unwrap_or r 0)
    (first_is n (λ j. f j == least_to n f) k h.inside (eq-eqb (f k) (least_to n f) (least_value n f k h))
    (λ j l. ne_eqb (f j) (least_to n f) (λ e. let a = h.first j l in let b = least_value n f k h in absurd (omega arith))))

-- of functions that agree
pub least_place_agree : (n : ℕ) (f g : ℕ → ℕ) (k : ℕ) → ((j : ℕ) → j < n → f j ≡ g j) → IsLeastPlace n f k → IsLeastPlace n g k
least_place_agree n f g k e h =
    let i = h.inside in
    record {
      inside = i;
      least = λ j l. let a = e k i in let b = e j l in let c = h.least j l in omega arith;
      first = λ j l. let a = e k i in let b = e j (omega arith) in let c = h.first j l in omega arith;
    }

-- one number more
pub least_place_keeps : (n : ℕ) (f : ℕ → ℕ) (k : ℕ) → f k ≤ f n → IsLeastPlace n f k → IsLeastPlace (n + 1) f k
least_place_keeps n f k l h = record {
  inside = let a = h.inside in omega arith;
  least = λ j m. by_test (j == n)
      (λ e. let w = eqb-true j n e in rw w l)
      (λ e. let ne : j ≢ n = differ j n e in h.least j (omega arith));
  first = h.first;
}

pub least_place_takes : (n : ℕ) (f : ℕ → ℕ) (k : ℕ) → f n < f k → IsLeastPlace n f k → IsLeastPlace (n + 1) f n
least_place_takes n f k l h = record {
  inside = omega arith;
  least = λ j m. by_test (j == n)
      (λ e. let w = eqb-true j n e in rw w (omega arith))
      (λ e. let ne : j ≢ n = differ j n e in let a = h.least j (omega arith) in omega arith);
  first = λ j m. let a = h.least j m in omega arith;
}

pub least_place_one : (f : ℕ → ℕ) → IsLeastPlace 1 f 0
least_place_one f = record {
  inside = omega arith;
  least = λ j m. let e : j ≡ 0 = omega arith in rw e (omega arith);
  first = λ j m. absurd (omega arith);
}
