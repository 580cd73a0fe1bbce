-- Lists of bounds.
use Rattle.std.specs.Prelude.{ℕ, Bool, int_lt, List, [], ◌∷◌, map, fold, slice_index_or, ℤ, pos}
use Rattle.std.specs.Int.{int_max}
use Rattle.chisel_bound.specs.declared.bounds.Bounds.{Bounds}

-- the bounds with vector j
abbrev pub bounds_at : List Bounds → ℕ → Bounds
bounds_at bs j = slice_index_or bs j (record { value = pos 0; excess = pos 0 })

-- no completion meets all rows, by the excess with vector j
abbrev pub has_excess : List Bounds → ℕ → Bool
has_excess bs j = int_lt (pos 0) (bounds_at bs j).excess

-- the value with vector j is above a limit
abbrev pub is_above : ℤ → List Bounds → ℕ → Bool
is_above limit bs j = int_lt limit (bounds_at bs j).value

-- the greatest of some numbers, 0 where there are none
abbrev pub greatest : List ℤ → ℤ
greatest [] = pos 0
greatest (v ∷ vs) = fold int_max v vs

-- their values
abbrev pub values : List Bounds → List ℤ
values bs = map (λ b. b.value) bs
