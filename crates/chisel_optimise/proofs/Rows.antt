-- The rows told again, one more at a time.
use Rattle.std.proofs.Common.{◌≡◌, ℕ, ◌+◌, List, [], ◌∷◌, ◌++◌, Option}
use Rattle.chisel_table.specs.declared.table.Table.{Table}
use Rattle.chisel_table.specs.Sums.{list_to}
use Rattle.chisel_bound.proofs.Lists.{listed_more, listed_none}
use Rattle.chisel_cert.specs.Valid.{restated_row}

pub rows_none : (t : Table) (choice : Option (List ℕ)) → list_to 0 (restated_row t choice) ≡ []
rows_none t choice = listed_none (restated_row t choice)

pub rows_more : (t : Table) (choice : Option (List ℕ)) (n : ℕ) → list_to (n + 1) (restated_row t choice) ≡ list_to n (restated_row t choice) ++ restated_row t choice n ∷ []
rows_more t choice n = listed_more n (restated_row t choice)
