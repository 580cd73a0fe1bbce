-- A choice that meets the rows spends few debits of each.
use Rattle.std.proofs.Common.{ℕ, ◌<◌, ◌≤◌, List, Some, arith}
use Rattle.std.proofs.lemmas.Int.{ints}
use Rattle.std.specs.Prelude.{pos, ◌≤ℤ◌}
use Rattle.chisel_table.specs.declared.table.Table.{Table}
use Rattle.chisel_table.specs.Choices.{spent}
use Rattle.chisel_table.specs.Tables.{budget_at, row_count}
use Rattle.chisel_table.specs.Valid.{IsTable}
use Rattle.chisel_cert.specs.Valid.{IsClaimed}

pub spent_small : (t : Table) (options : List ℕ) (i : ℕ) → IsTable t → IsClaimed t (Some options) → i < row_count t → spent t i options ≤ 16777216
spent_small t options i table claimed l =
    let a : pos (spent t i options) ≤ℤ budget_at t i = claimed.1.rows i l in
    let b : budget_at t i ≤ℤ pos 16777216 = table.greatest_budgets i l in
    grind (arith, ints, a, b)
