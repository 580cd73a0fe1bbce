-- What holds of two lists, place by place.
use Rattle.std.proofs.Common.{List, [], ◌∷◌, ◌++◌}
use Rattle.std.specs.List.{AllZip}

-- and of one more of each
pub zip_append : {X Y : Type 0} (R : X → Y → Type 0) (xs : List X) (ys : List Y) (x : X) (y : Y) → AllZip R xs ys → R x y → AllZip R (xs ++ x ∷ []) (ys ++ y ∷ [])
zip_append R [] [] x y all one = (one, tt)
zip_append R [] (b ∷ ys) x y all one = absurd all
zip_append R (a ∷ xs) [] x y all one = absurd all
zip_append R (a ∷ xs) (b ∷ ys) x y all one = (all.0, zip_append R xs ys x y all.1 one)
