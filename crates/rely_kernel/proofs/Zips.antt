-- What holds of two lists, place by place.
use Rattle.std.proofs.Common.{◌≡◌, ℕ, zero, suc, ◌<◌, List, [], ◌∷◌, length, get_or, drop, drop-cons, ap, sym, refl, subst, arith, Some}
use Rattle.std.specs.Prelude.{slice_get}
use Rattle.std.specs.List.{AllZip}

module _ {X Y : Type 0} (R : X → Y → Type 0) where
  -- of the next two elements, and of what follows them
  pub zip_next : (xs : List X) (ys : List Y) (i : ℕ) (x : X) (y : Y) → i < length xs → i < length ys → AllZip R (drop i xs) (drop i ys) → R (get_or xs i x) (get_or ys i y) × AllZip R (drop (suc i) xs) (drop (suc i) ys)
  zip_next xs ys i x y a b h =
      subst (λ l. AllZip R (get_or xs i x ∷ drop (suc i) xs) l) (drop-cons ys i y b) (subst (λ l. AllZip R l (drop i ys)) (drop-cons xs i x a) h)

  -- and back
  pub zip_back : (xs : List X) (ys : List Y) (i : ℕ) (x : X) (y : Y) → i < length xs → i < length ys → R (get_or xs i x) (get_or ys i y) → AllZip R (drop (suc i) xs) (drop (suc i) ys) → AllZip R (drop i xs) (drop i ys)
  zip_back xs ys i x y a b r h =
      subst (λ l. AllZip R l (drop i ys)) (sym (drop-cons xs i x a)) (subst (λ l. AllZip R (get_or xs i x ∷ drop (suc i) xs) l) (sym (drop-cons ys i y b)) (r, h))

  -- the lists are as long
  pub zip_long : (xs : List X) (ys : List Y) → AllZip R xs ys → length xs ≡ length ys
  zip_long [] [] h = refl
  zip_long [] (y ∷ ys) h = absurd h
  zip_long (x ∷ xs) [] h = absurd h
  zip_long (x ∷ xs) (y ∷ ys) h = ap suc (zip_long xs ys h.1)

  -- it holds at each place
  pub zip_at : (xs : List X) (ys : List Y) (i : ℕ) (y : Y) → AllZip R xs ys → i < length xs → (x : X) × (slice_get xs i ≡ Some x) × R x (get_or ys i y)
  zip_at [] ys i y h lt = absurd (omega (arith, lt))
  zip_at (a ∷ xs) [] i y h lt = absurd h
  zip_at (a ∷ xs) (b ∷ ys) zero y h lt = (a, refl, h.0)
  zip_at (a ∷ xs) (b ∷ ys) (suc i) y h lt = zip_at xs ys i y h.1 (omega (arith, lt))
