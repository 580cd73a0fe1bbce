-- The rows of open places, and what a choice of options takes of them.
use Rattle.std.proofs.Common.{◌≡◌, ℕ, zero, suc, ◌+◌, ◌<◌, List, [], ◌∷◌, map, drop, length, Some, refl, sym, ap, ◌∙◌, subst, arith, add-one}
use Rattle.std.specs.Prelude.{slice_get, slice_index, slice_index_or}
use Rattle.std.specs.List.{AllZip, cons_option}
use Rattle.rely_kernel.specs.declared.kernel.Slot.{Slot}
use Rattle.rely_kernel.specs.declared.kernel.Slot.TheVariants.{Named, Free}
use Rattle.rely_kernel.specs.Choice.{Decision, decision_at}
use Rattle.chisel_table.specs.Sums.{sum_to}
use Rattle.chisel_table.proofs.Sums.{sum_none, sum_same}
use Rattle.chisel_problem.specs.declared.places.Place.{Place}
use Rattle.chisel_problem.specs.Places.{numbered, opened, prices_if_open}
use Rattle.chisel_problem.proofs.PlaceLaws.{chosen, open_from}
use Rattle.chisel_problem.proofs.Rates.{index_drop}

-- ---- sums

sum_front : (n : ℕ) (f : ℕ → ℕ) → sum_to (suc n) f ≡ f 0 + sum_to n (λ d. f (suc d))
unfolding sum_to
sum_front zero f = omega arith
sum_front (suc n) f = omega (arith, sum_front n f)

-- a sum over decisions is what is chosen row by row
pub chosen_is : (rows : List (List ℕ)) (c : List ℕ) → sum_to (length rows) (λ d. slice_index (slice_index_or rows d []) (slice_index c d)) ≡ chosen rows c
chosen_is [] c = sum_none (λ d. slice_index (slice_index_or {A = List ℕ} [] d []) (slice_index c d))
chosen_is (r ∷ rs) c =
    let f : ℕ → ℕ = λ d. slice_index (slice_index_or (r ∷ rs) d []) (slice_index c d) in
    let g : ℕ → ℕ = λ d. slice_index (slice_index_or rs d []) (slice_index (drop 1 c) d) in
    let rest : sum_to (length rs) (λ d. f (suc d)) ≡ sum_to (length rs) g =
    sum_same (length rs) (λ d. f (suc d)) g (λ d l. ap (slice_index (slice_index_or rs d [])) (sym (index_drop 1 c d ∙ ap (slice_index c) (omega arith)))) in
    omega (arith, sum_front (length rs) f, rest, chosen_is rs (drop 1 c))

-- ---- choices

-- an option in range for each row, by places or by the lists' ends
pub ranges : (rows : List (List ℕ)) (c : List ℕ) → length c ≡ length rows → ((d : ℕ) → d < length rows → slice_index c d < length (slice_index_or rows d []))
    → AllZip (λ n o. o < n) (map length rows) c
ranges [] [] long each = tt
ranges [] (o ∷ os) long each = absurd (omega (arith, long))
ranges (r ∷ rs) [] long each = absurd (omega (arith, long))
ranges (r ∷ rs) (o ∷ os) long each = (each 0 (omega arith), ranges rs os (omega (arith, long)) (λ d l. each (suc d) (omega (arith, l))))

pub in_range : (rows : List (List ℕ)) (c : List ℕ) → AllZip (λ n o. o < n) (map length rows) c → (d : ℕ) → d < length rows → slice_index c d < length (slice_index_or rows d [])
in_range [] c all d l = absurd (omega (arith, l))
in_range (r ∷ rs) [] all d l = absurd all
in_range (r ∷ rs) (o ∷ os) all zero l = all.0
in_range (r ∷ rs) (o ∷ os) all (suc d) l = in_range rs os all.1 d (omega (arith, l))

pub ranges_long : (rows : List (List ℕ)) (c : List ℕ) → AllZip (λ n o. o < n) (map length rows) c → length c ≡ length rows
ranges_long [] [] all = refl
ranges_long [] (o ∷ os) all = absurd all
ranges_long (r ∷ rs) [] all = absurd all
ranges_long (r ∷ rs) (o ∷ os) all = ap suc (ranges_long rs os all.1)

-- ---- the widths of the open rows

module _ {X : Type 0} (slot : X → Slot) (place : ℕ → Decision) (f : ℕ → X → Place) (many : Decision → ℕ) where
  pub widths : (a : ℕ) (xs : List X) → ((i : ℕ) (x : X) → (f i x).slot ≡ slot x) → ((i j : ℕ) (x : X) → slice_get xs j ≡ Some x → i ≡ a + j → length (f i x).prices ≡ many (place i))
      → map length (opened (numbered f a xs)) ≡ map many (open_from slot place a xs)
  widths a [] same wide = refl
  widths a (x ∷ xs) same wide =
      let here = wide a 0 x refl (omega arith) in
      let next : map many (open_from slot place (suc a) xs) ≡ map many (open_from slot place (a + 1) xs) = ap (λ b. map many (open_from slot place b xs)) (sym (add-one a)) in
      let rest = widths (suc a) xs same (λ i j y at e. wide i (suc j) y at (omega (arith, e))) ∙ next in
      subst (λ (s : Slot). map length (cons_option (prices_if_open s (f a x).prices) (opened (numbered f (suc a) xs))) ≡ map many (cons_option (decision_at (slot x) (place a)) (open_from slot place (a + 1) xs)))
      (sym (same a x)) (one (slot x) here rest)
    where
      one : (s : Slot) → length (f a x).prices ≡ many (place a) → map length (opened (numbered f (suc a) xs)) ≡ map many (open_from slot place (a + 1) xs)
          → map length (cons_option (prices_if_open s (f a x).prices) (opened (numbered f (suc a) xs))) ≡ map many (cons_option (decision_at s (place a)) (open_from slot place (a + 1) xs))
      one (Named n) here rest = rest
      one Free here rest = cc
