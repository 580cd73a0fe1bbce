-- What holds of each item of a list, part by part.
use Rattle.std.proofs.Common.{◌≡◌, ℕ, zero, suc, ◌+◌, ◌<◌, List, [], ◌∷◌, ◌++◌, map, drop, get_or, length, Some, refl, ap, subst, arith}
use Rattle.std.specs.Prelude.{flat_map, slice_get, slice_index_or}
use Rattle.std.specs.List.{AllByRecursion, zip}
use Rattle.std.proofs.lemmas.Option.{same_Some}
use Rattle.rely_machine.specs.EnergySums.{sum_from}

module _ {X : Type 0} (P : X → Type 0) where
  pub known : (xs : List X) (j : ℕ) (x : X) → AllByRecursion P xs → slice_get xs j ≡ Some x → P x
  known [] j x all e = absurd (cc)
  known (y ∷ xs) zero x all e = subst P (same_Some y x e) all.0
  known (y ∷ xs) (suc j) x all e = known xs j x all.1 e

  pub front : (xs ys : List X) → AllByRecursion P (xs ++ ys) → AllByRecursion P xs
  front [] ys all = tt
  front (x ∷ xs) ys all = (all.0, front xs ys all.1)

  pub behind : (xs ys : List X) → AllByRecursion P (xs ++ ys) → AllByRecursion P ys
  behind [] ys all = all
  behind (x ∷ xs) ys all = behind xs ys all.1

  pub joined : (xs ys : List X) → AllByRecursion P xs → AllByRecursion P ys → AllByRecursion P (xs ++ ys)
  joined [] ys one other = other
  joined (x ∷ xs) ys one other = (one.0, joined xs ys one.1 other)

  pub by_place : (d : X) (xs : List X) → AllByRecursion P xs → (i : ℕ) → i < length xs → P (slice_index_or xs i d)
  by_place d [] all i l = absurd (omega (arith, l))
  by_place d (x ∷ xs) all zero l = all.0
  by_place d (x ∷ xs) all (suc i) l = by_place d xs all.1 i (omega (arith, l))

  pub from_places : (d : X) (xs : List X) → ((i : ℕ) → i < length xs → P (slice_index_or xs i d)) → AllByRecursion P xs
  from_places d [] each = tt
  from_places d (x ∷ xs) each = (each 0 (omega arith), from_places d xs (λ i l. each (suc i) (omega (arith, l))))

pub mapped_twice : {X Y Z : Type 0} (f : Y → Z) (g : X → Y) (xs : List X) → map f (map g xs) ≡ map (λ x. f (g x)) xs
mapped_twice f g [] = refl
mapped_twice f g (x ∷ xs) = ap (λ zs. f (g x) ∷ zs) (mapped_twice f g xs)

-- pairs of which the first parts are mapped before
pub flat_zipped : {X Y Z W : Type 0} (f : Z → Y → List W) (g : X → Z) (xs : List X) (ys : List Y)
    → flat_map (λ x. f x.0 x.1) (zip (map g xs) ys) ≡ flat_map (λ x. f (g x.0) x.1) (zip xs ys)
flat_zipped f g [] ys = refl
flat_zipped f g (x ∷ xs) [] = refl
flat_zipped f g (x ∷ xs) (y ∷ ys) = ap (λ zs. f (g x) y ++ zs) (flat_zipped f g xs ys)

-- the first of the pairs from a place on, and those behind it
pub flat_front : {X Y Z : Type 0} (f : X × Y → List Z) (xs : List X) (ys : List Y) (i : ℕ) (x : X) (y : Y) → i < length xs → i < length ys
    → flat_map f (zip (drop i xs) (drop i ys)) ≡ f (get_or xs i x, get_or ys i y) ++ flat_map f (zip (drop (i + 1) xs) (drop (i + 1) ys))
flat_front f [] ys i x y l m = absurd (omega (arith, l))
flat_front f (a ∷ xs) [] i x y l m = absurd (omega (arith, m))
flat_front f (a ∷ xs) (b ∷ ys) zero x y l m = refl
flat_front f (a ∷ xs) (b ∷ ys) (suc i) x y l m =
    let e : suc i + 1 ≡ suc (i + 1) = omega arith in
    rw e (flat_front f xs ys i x y (omega (arith, l)) (omega (arith, m)))

-- a sum over items of which one number each is known
pub from_front : {X : Type 0} (g : X → ℕ) (f : ℕ → ℕ → ℕ) (a : ℕ) (xs : List X) (i d : ℕ) → i < length (map g xs)
    → sum_from (λ j x. f j (g x)) a (drop i xs) ≡ f a (get_or (map g xs) i d) + sum_from (λ j x. f j (g x)) (suc a) (drop (suc i) xs)
from_front g f a [] i d l = absurd (omega (arith, l))
from_front g f a (x ∷ xs) zero d l = refl
from_front g f a (x ∷ xs) (suc i) d l = from_front g f a xs i d (omega (arith, l))
