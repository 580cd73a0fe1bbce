-- Debits beside the reliabilities that they are of.
use Rattle.std.proofs.Common.{◌≡◌, ℕ, zero, suc, ◌<◌, List, [], ◌∷◌, map, length, refl, arith}
use Rattle.std.specs.Prelude.{slice_index}

-- a list is the map of another where each number is that of its place
pub mapped : (f : ℕ → ℕ) (xs ys : List ℕ) → length ys ≡ length xs → ((k : ℕ) → k < length xs → slice_index ys k ≡ f (slice_index xs k)) → ys ≡ map f xs
mapped f [] [] long h = refl
mapped f [] (y ∷ ys) long h = absurd (omega (arith, long))
mapped f (x ∷ xs) [] long h = absurd (omega (arith, long))
mapped f (x ∷ xs) (y ∷ ys) long h =
    let e = h 0 (omega arith) in
    let es = mapped f xs ys (omega (arith, long)) (λ k l. h (suc k) (omega arith)) in
    cc

-- and each number of a map is that of its place
pub map_at : (f : ℕ → ℕ) (xs : List ℕ) (k : ℕ) → k < length xs → slice_index (map f xs) k ≡ f (slice_index xs k)
map_at f [] k l = absurd (omega arith)
map_at f (x ∷ xs) zero l = refl
map_at f (x ∷ xs) (suc k) l = map_at f xs k (omega arith)
