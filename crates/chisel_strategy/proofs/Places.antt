-- The place that is best first is the first of the least value.
use Rattle.std.proofs.Common.{◌≡◌, ℕ, zero, suc, true, false, ◌+◌, ◌-◌, ◌≤◌, ◌<◌, ◌==◌, List, length, refl, arith, add-one}
use Rattle.std.specs.Prelude.{int_lt, nat_lt}
use Rattle.std.proofs.lemmas.Bool.{eqb-true, ltb-false, ltb-true}
use Rattle.std.proofs.lemmas.Int.{ints}
use lib.Signed.{◌≤ℤ◌, ◌<ℤ◌}
use Rattle.chisel_table.proofs.Sums.{by_test, differ, int_below, int_above}
use Rattle.chisel_search.specs.declared.part.Part.{Part}
use Rattle.chisel_options.specs.declared.strategy.Order.TheVariants.{Best}
use Rattle.chisel_search.specs.Rules.{IsFirstLeast, value_at}
use Rattle.chisel_strategy.specs.Picking.{least_to, place}

pub least_one : (parts : List Part) → least_to parts 0 ≡ 0
unfolding least_to
least_one parts = refl

-- a value that is less than the least takes its place
pub least_next : (parts : List Part) (n : ℕ) → int_lt (value_at parts (n + 1)) (value_at parts (least_to parts n)) ≡ true → least_to parts (n + 1) ≡ n + 1
unfolding least_to
least_next parts n h = rw (add-one n) (let a = rw (add-one n) at h in rw a refl)

pub least_stays : (parts : List Part) (n : ℕ) → int_lt (value_at parts (n + 1)) (value_at parts (least_to parts n)) ≡ false → least_to parts (n + 1) ≡ least_to parts n
unfolding least_to
least_stays parts n h = rw (add-one n) (let a = rw (add-one n) at h in rw a refl)

-- of the places up to n
record IsLeastUpTo (parts : List Part) (n k : ℕ) : Type 0 where
  inside : k ≤ n
  least : (j : ℕ) → j ≤ n → value_at parts k ≤ℤ value_at parts j
  first : (j : ℕ) → j < k → value_at parts k <ℤ value_at parts j

least_up_to : (parts : List Part) (n : ℕ) → IsLeastUpTo parts n (least_to parts n)
unfolding least_to
least_up_to parts zero = record {
  inside = omega arith;
  least = λ j l. let e : j ≡ 0 = omega arith in rw e (grind (arith, ints));
  first = λ j l. absurd (omega arith);
}
least_up_to parts (suc n) =
    let h = least_up_to parts n in
    let k = least_to parts n in
    by_test (int_lt (value_at parts (suc n)) (value_at parts k))
    (λ e. rw e (let l = int_below (value_at parts (suc n)) (value_at parts k) e in record {
      inside = omega arith;
      least = λ j m. by_test (j == suc n)
          (λ q. rw (eqb-true j (suc n) q) (grind (arith, ints)))
          (λ q. let ne = differ j (suc n) q in let a = h.least j (omega arith) in grind (arith, ints));
      first = λ j m. let a = h.least j (omega arith) in grind (arith, ints);
    }))
    (λ e. rw e (let l = int_above (value_at parts (suc n)) (value_at parts k) e in record {
      inside = let a = h.inside in omega arith;
      least = λ j m. by_test (j == suc n)
          (λ q. rw (eqb-true j (suc n) q) l)
          (λ q. let ne = differ j (suc n) q in h.least j (omega arith));
      first = h.first;
    }))

pub is_first_least : (parts : List Part) → 0 < length parts → IsFirstLeast parts (place Best parts)
is_first_least parts some =
    let h = least_up_to parts (length parts - 1) in
    record {
      inside = let a = h.inside in omega arith;
      least = λ j l. h.least j (omega arith);
      first = h.first;
    }

pub least_inside : (parts : List Part) (n : ℕ) → least_to parts n ≤ n
least_inside parts n = (least_up_to parts n).inside

-- two places of which each is the first of the least value are one
pub first_least_once : (parts : List Part) (j k : ℕ) → IsFirstLeast parts j → IsFirstLeast parts k → j ≡ k
first_least_once parts j k a b = by_test (j == k)
    (λ e. eqb-true j k e)
    (λ e. let ne = differ j k e in by_test (nat_lt j k)
    (λ l. absurd (let x = b.first j (ltb-true j k l) in let y = a.least k b.inside in grind (arith, ints)))
    (λ l. absurd (let m = ltb-false j k l in let x = a.first k (omega arith) in let y = b.least j a.inside in grind (arith, ints))))

pub best_place : (parts : List Part) (k : ℕ) → IsFirstLeast parts k → k ≡ place Best parts
best_place parts k h = first_least_once parts k (place Best parts) h (is_first_least parts (let i = h.inside in omega arith))
