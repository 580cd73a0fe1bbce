-- Worked examples: the definitions compute.
use Rattle.std.proofs.Common.{◌≡◌, ℕ, List, [], ◌∷◌, refl}
use lib.IntN.{pos, negsuc}
use Rattle.chisel_table.specs.declared.table.Table.{Table}
use Rattle.chisel_table.specs.Sums.{sum_to, least_to, first_to, list_to}
use Rattle.chisel_bound.specs.Ascent.{greatest_to, cheapest, vector_after, ascended}

one_row : Table
one_row = record { fixed = 6; energies = (100 ∷ 60 ∷ 20 ∷ []) ∷ []; rows = record { budget = pos 8; spent = (0 ∷ 3 ∷ 106 ∷ []) ∷ [] } ∷ [] }

pool_of_one_row : ◌≡◌ {A = List (List ℕ)} (ascended one_row) ((0 ∷ []) ∷ (33548 ∷ []) ∷ (54240 ∷ []) ∷ (44481 ∷ []) ∷ (35591 ∷ []) ∷ [])
unfolding one_row sum_to least_to first_to list_to greatest_to cheapest vector_after
pool_of_one_row = refl

-- a budget below zero, which no choice meets
unmet : Table
unmet = record { fixed = 6; energies = (100 ∷ 60 ∷ 20 ∷ []) ∷ []; rows = record { budget = negsuc 0; spent = (0 ∷ 3 ∷ 106 ∷ []) ∷ [] } ∷ [] }

pool_of_unmet : ◌≡◌ {A = List (List ℕ)} (ascended unmet) ((0 ∷ []) ∷ (14249397 ∷ []) ∷ (17724752 ∷ []) ∷ (21278192 ∷ []) ∷ (24871625 ∷ []) ∷ [])
unfolding unmet sum_to least_to first_to list_to greatest_to cheapest vector_after
pool_of_unmet = refl
