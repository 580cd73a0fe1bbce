-- What places cost under the numbers of a choice: what is named, and what is chosen.
use Rattle.std.proofs.Common.{◌≡◌, ℕ, zero, suc, ◌+◌, List, [], ◌∷◌, ◌++◌, map, drop, length, filter_map, refl, sym, ap, ◌∙◌, arith, drop_of_length-le}
use Rattle.std.specs.Prelude.{slice_get, slice_index}
use Rattle.std.specs.List.{cons_option, enumerate_from}
use Rattle.std.specs.Option.{option_map_or}
use Rattle.std.proofs.lemmas.List.Sums.{sum_by-cons}
use Rattle.rely_kernel.specs.declared.kernel.Slot.{Slot}
use Rattle.rely_kernel.specs.declared.kernel.Slot.TheVariants.{Named, Free}
use Rattle.rely_kernel.specs.Choice.{Decision, decision_at, filled}
use Rattle.rely_machine.specs.EnergySums.{sum_from}
use Rattle.chisel_problem.specs.declared.places.Place.{Place}
use Rattle.chisel_problem.specs.Places.{closed, numbered, opened, price_if_named, prices_if_open, under}

-- what the options of a choice cost, row by row
abbrev pub chosen : List (List ℕ) → List ℕ → ℕ
chosen [] ns = 0
chosen (r ∷ rs) ns = slice_index r (slice_index ns 0) + chosen rs (drop 1 ns)

abbrev pub slots_of : List Place → List Slot
slots_of ps = map (λ p. p.slot) ps

-- ---- a choice

pub under_filled : (ps : List Place) (choice : List ℕ) → under ps (filled (slots_of ps) choice) ≡ closed ps + chosen (opened ps) choice
under_filled [] choice = refl
under_filled (p ∷ ps) choice = omega (arith, one p.slot (under_filled ps), sum_by-cons (λ q. price_if_named q.slot q.prices) p ps)
  where
    one : (s : Slot) → ((os : List ℕ) → under ps (filled (slots_of ps) os) ≡ closed ps + chosen (opened ps) os)
        → under (p ∷ ps) (filled (s ∷ slots_of ps) choice) ≡ (price_if_named s p.prices + closed ps) + chosen (cons_option (prices_if_open s p.prices) (opened ps)) choice
    one (Named n) rest = omega (arith, rest choice)
    one Free rest = omega (arith, rest (drop 1 choice))

pub filled_long : (slots : List Slot) (choice : List ℕ) → length (filled slots choice) ≡ length slots
filled_long [] choice = refl
filled_long (Named n ∷ slots) choice = ap suc (filled_long slots choice)
filled_long (Free ∷ slots) choice = ap suc (filled_long slots (drop 1 choice))

-- ---- numbers place by place

pub under_append : (ps qs : List Place) (ns ms : List ℕ) → length ps ≡ length ns → under (ps ++ qs) (ns ++ ms) ≡ under ps ns + under qs ms
under_append [] qs [] ms long = omega arith
under_append [] qs (n ∷ ns) ms long = absurd (omega (arith, long))
under_append (p ∷ ps) qs [] ms long = absurd (omega (arith, long))
under_append (p ∷ ps) qs (n ∷ ns) ms long = omega (arith, under_append ps qs ns ms (omega (arith, long)))

module _ {X : Type 0} (f : ℕ → X → Place) where
  pub numbered_long : (a : ℕ) (xs : List X) → length (numbered f a xs) ≡ length xs
  numbered_long a [] = refl
  numbered_long a (x ∷ xs) = ap suc (numbered_long (suc a) xs)

  pub numbered_slots : (slot : X → Slot) (a : ℕ) (xs : List X) → ((i : ℕ) (x : X) → (f i x).slot ≡ slot x) → slots_of (numbered f a xs) ≡ map slot xs
  numbered_slots slot a [] same = refl
  numbered_slots slot a (x ∷ xs) same = ap (λ s. s ∷ slots_of (numbered f (suc a) xs)) (same a x) ∙ ap (λ ss. slot x ∷ ss) (numbered_slots slot (suc a) xs same)

  pub under_numbered : (at : ℕ → ℕ) (a : ℕ) (xs : List X) (ns : List ℕ) → length xs ≡ length ns → ((i j : ℕ) → i ≡ a + j → at i ≡ slice_index ns j)
      → under (numbered f a xs) ns ≡ sum_from (λ i x. slice_index (f i x).prices (at i)) a xs
  under_numbered at a [] ns long same = refl
  under_numbered at a (x ∷ xs) [] long same = absurd (omega (arith, long))
  under_numbered at a (x ∷ xs) (n ∷ ns) long same =
      let here : at a ≡ n = same a 0 (omega arith) in
      let first : slice_index (f a x).prices n ≡ slice_index (f a x).prices (at a) = ap (slice_index (f a x).prices) (sym here) in
      omega (arith, first, under_numbered at (suc a) xs ns (omega (arith, long)) (λ i j e. same i (suc j) (omega (arith, e))))

-- ---- two lists of places, one behind the other

drop_more : (n : ℕ) (xs : List ℕ) → drop (suc n) xs ≡ drop n (drop 1 xs)
drop_more n [] = sym (drop_of_length-le [] (omega arith))
drop_more n (x ∷ xs) = refl

module _ {X : Type 0} (slot : X → Slot) (place : ℕ → Decision) where
  abbrev pub open_from : ℕ → List X → List Decision
  open_from a xs = filter_map (λ x. decision_at (slot x.1) (place x.0)) (enumerate_from a xs)

  pub filled_append : (a : ℕ) (xs : List X) (slots : List Slot) (choice : List ℕ)
      → filled (map slot xs ++ slots) choice ≡ filled (map slot xs) choice ++ filled slots (drop (length (open_from a xs)) choice)
  filled_append a [] slots choice = refl
  filled_append a (x ∷ xs) slots choice = one (slot x) (filled_append (a + 1) xs slots)
    where
      one : (s : Slot)
          → ((os : List ℕ) → filled (map slot xs ++ slots) os ≡ filled (map slot xs) os ++ filled slots (drop (length (open_from (a + 1) xs)) os))
          → filled (s ∷ (map slot xs ++ slots)) choice
          ≡ filled (s ∷ map slot xs) choice ++ filled slots (drop (length (cons_option (decision_at s (place a)) (open_from (a + 1) xs))) choice)
      one (Named n) rest = ap (λ ns. n ∷ ns) (rest choice)
      one Free rest =
          ap (λ ns. slice_index choice 0 ∷ ns)
          (rest (drop 1 choice) ∙ ap (λ os. filled (map slot xs) (drop 1 choice) ++ filled slots os) (sym (drop_more (length (open_from (a + 1) xs)) choice)))

-- ---- one price

pub price_at : {X : Type 0} (g : X → ℕ) (xs : List X) (n : ℕ) → slice_index (map g xs) n ≡ option_map_or g (slice_get xs n) 0
price_at g [] n = refl
price_at g (x ∷ xs) zero = refl
price_at g (x ∷ xs) (suc n) = price_at g xs n
