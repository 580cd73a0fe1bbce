-- Sums and products of capped numbers, and the loops that gather them.
use Rattle.std.proofs.Common.{◌≡◌, ℕ, zero, suc, ◌+◌, ◌*◌, ◌≤◌, ◌<◌, List, refl, ap, arith, drop, length, get_or, drop-cons, add-one}
use Rattle.std.proofs.Math.ListN.{drop_of_length-le}
use Rattle.std.proofs.lemmas.List.Sums.{sum_by-cons}
use Rattle.std.specs.Prelude.{min, sum_by}
use Rattle.rely_machine.specs.EnergySums.{capped, sum_from}

-- ---- numbers

-- a capped sum of capped numbers
pub capped_sum : (a b : ℕ) → min (capped a + capped b) 18446744073709551615 ≡ capped (a + b)
capped_sum a b = omega arith

-- a product with a capped number
pub capped_times : (a b : ℕ) → min (a * capped b) 18446744073709551615 ≡ capped (a * b)
capped_times zero b = grind arith
capped_times (suc a) b = grind arith

-- one more capped part, and the rest
more : (total part rest sum all : ℕ) → sum ≡ part + rest → capped (total + sum) ≡ capped all → capped (min (total + capped part) 18446744073709551615 + rest) ≡ capped all
more total part rest sum all e h = omega (arith, e, h)

-- ---- loops over a list with the items' numbers

module _ {X : Type 0} (f : ℕ → X → ℕ) (xs : List X) where
  -- the sum from an item on
  from_cons : (i : ℕ) (d : X) → i < length xs → sum_from f i (drop i xs) ≡ f i (get_or xs i d) + sum_from f (i + 1) (drop (i + 1) xs)
  from_cons i d h = rw (drop-cons xs i d h, add-one i) refl

  pub from_step : (i : ℕ) (d : X) (total all : ℕ) → i < length xs → capped (total + sum_from f i (drop i xs)) ≡ capped all
      → capped (min (total + capped (f i (get_or xs i d))) 18446744073709551615 + sum_from f (i + 1) (drop (i + 1) xs)) ≡ capped all
  from_step i d total all below h = more total (f i (get_or xs i d)) (sum_from f (i + 1) (drop (i + 1) xs)) (sum_from f i (drop i xs)) all (from_cons i d below) h

  pub from_end : (i total all : ℕ) → length xs ≤ i → total ≤ 18446744073709551615 → capped (total + sum_from f i (drop i xs)) ≡ capped all → total ≡ capped all
  from_end i total all past fits h =
      let none : sum_from f i (drop i xs) ≡ 0 = ap (sum_from f i) (drop_of_length-le xs past) in omega arith

-- ---- and without

module _ {X : Type 0} (f : X → ℕ) (xs : List X) where
  pub by_step : (i : ℕ) (d : X) (total all : ℕ) → i < length xs → capped (total + sum_by f (drop i xs)) ≡ capped all
      → capped (min (total + capped (f (get_or xs i d))) 18446744073709551615 + sum_by f (drop (i + 1) xs)) ≡ capped all
  by_step i d total all below h =
      more total (f (get_or xs i d)) (sum_by f (drop (i + 1) xs)) (sum_by f (drop i xs)) all
      (rw (drop-cons xs i d below, add-one i) (sum_by-cons f (get_or xs i d) (drop (suc i) xs))) h

  pub by_end : (i total all : ℕ) → length xs ≤ i → total ≤ 18446744073709551615 → capped (total + sum_by f (drop i xs)) ≡ capped all → total ≡ capped all
  by_end i total all past fits h =
      let none : sum_by f (drop i xs) ≡ 0 = ap (sum_by f) (drop_of_length-le xs past) in omega arith
