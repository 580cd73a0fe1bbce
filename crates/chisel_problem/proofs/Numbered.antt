-- Loops over a list with the items' numbers, each of which adds an item.
use Rattle.std.proofs.Common.{◌≡◌, ℕ, ◌+◌, ◌<◌, ◌≤◌, List, [], ◌∷◌, ◌++◌, map, drop, length, get_or, refl, sym, ap, ◌∙◌, add-one, drop-cons, append_assoc, append-nil}
use Rattle.std.proofs.Math.ListN.{drop_of_length-le}
use Rattle.chisel_problem.specs.Places.{numbered}

module _ {X Y Z : Type 0} (f : ℕ → X → Y) (g : Y → Z) (xs : List X) where
  pub numbered_step : (i : ℕ) (d : X) (before all : List Z) → i < length xs → before ++ map g (numbered f i (drop i xs)) ≡ all
      → (before ++ g (f i (get_or xs i d)) ∷ []) ++ map g (numbered f (i + 1) (drop (i + 1) xs)) ≡ all
  numbered_step i d before all below h =
      let next : map g (numbered f i (drop i xs)) ≡ g (f i (get_or xs i d)) ∷ map g (numbered f (i + 1) (drop (i + 1) xs)) = rw (drop-cons xs i d below, add-one i) refl in
      rw append_assoc (ap (λ zs. before ++ zs) (sym next) ∙ h)

  pub numbered_end : (i : ℕ) (before all : List Z) → length xs ≤ i → before ++ map g (numbered f i (drop i xs)) ≡ all → before ≡ all
  numbered_end i before all past h =
      let none : map g (numbered f i (drop i xs)) ≡ [] = ap (λ ys. map g (numbered f i ys)) (drop_of_length-le xs past) in
      sym (append-nil before) ∙ (ap (λ zs. before ++ zs) (sym none) ∙ h)

  -- a loop's step, where the item that is added is known by an equation
  pub numbered_pushed : (i : ℕ) (d : X) (before after all : List Z) (z : Z) → i < length xs → after ≡ before ++ z ∷ [] → z ≡ g (f i (get_or xs i d))
      → before ++ map g (numbered f i (drop i xs)) ≡ all → after ++ map g (numbered f (i + 1) (drop (i + 1) xs)) ≡ all
  numbered_pushed i d before after all z below pushed is h =
      ap (λ zs. zs ++ map g (numbered f (i + 1) (drop (i + 1) xs))) (pushed ∙ ap (λ y. before ++ y ∷ []) is) ∙ numbered_step i d before all below h
