-- Which line of a certificate fails first for a table, and why.
use Rattle.std.specs.Prelude.{◌≡◌, ℕ, ◌+◌, ◌<◌, length, option_copied, Result, Err}
use Rattle.chisel_table.specs.declared.table.Table.{Table}
use Rattle.chisel_table.specs.Partials.{nothing_fixed}
use Rattle.chisel_table.specs.Tables.{decision_count, row_count}
use Rattle.chisel_cert.specs.declared.cert.Cert.{Cert}
use Rattle.chisel_cert.specs.Node.{certificate_of, tree_of, vectors_of}
use Rattle.chisel_cert.specs.Tree.{Certificate}
use Rattle.chisel_cert.specs.Valid.{IsClaimed, energy_of, restated_row, restated_at, IsValid}
use Rattle.chisel_check.specs.declared.node.Answer.{Answer}
use Rattle.chisel_check.specs.declared.node.Answer.TheVariants as answer
use Rattle.chisel_check.specs.declared.node.Failure.{Failure}
use Rattle.chisel_check.specs.declared.node.CheckWhy.{CheckWhy}
use Rattle.chisel_check.specs.declared.node.CheckWhy.TheVariants as why
use Rattle.chisel_check.specs.Walk.{walk, node_walk}

-- its sizes are the table's
abbrev pub IsSized : Table → Certificate → Type 0
IsSized t c = (c.decisions ≡ decision_count t) × (c.rows ≡ row_count t)

-- the sizes, the choice and the energy are right
pub record IsHeaded (t : Table) (c : Certificate) : Type 0 where
  pub sized : IsSized t c
  pub claimed : IsClaimed t c.choice
  pub energy : c.energy ≡ energy_of t c.choice

-- row i is told again as it is
abbrev pub IsTold : Table → Certificate → ℕ → Type 0
IsTold t c i = restated_at c.restated i ≡ restated_row t c.choice i

-- so are the rows before row n
abbrev pub AreTold : Table → Certificate → ℕ → Type 0
AreTold t c n = (i : ℕ) → i < n → IsTold t c i

-- the line of the root: behind four lines, the rows, the number of vectors, the vectors and the number of nodes
abbrev pub root_line : Certificate → ℕ
root_line c = length c.restated + length c.pool + 7

-- the certificate fails in that line, for that reason, and in none before it
abbrev pub FailsFirst : Table → Certificate → ℕ → CheckWhy → Type 0
FailsFirst t c line why.Size = (line ≡ 2) × (IsSized t c → ⊥)
FailsFirst t c line why.Choice = (line ≡ 3) × IsSized t c × (IsClaimed t c.choice → ⊥)
FailsFirst t c line why.Energy = (line ≡ 4) × IsSized t c × IsClaimed t c.choice × (c.energy ≡ energy_of t c.choice → ⊥)
FailsFirst t c line why.Row =
    IsHeaded t c × ((i : ℕ) × (line ≡ i + 5) × (i < length c.restated) × AreTold t c i × (IsTold t c i → ⊥))
FailsFirst t c line reason =
    IsHeaded t c × AreTold t c (length c.restated)
    × (walk t c.pool c.choice (nothing_fixed t) c.root (root_line c) ≡ Err (record { line = line; why = reason }))

-- a no has the first line that fails
abbrev pub IsFirstFailure : Table → Certificate → Answer → Type 0
IsFirstFailure t c answer.Yes = Unit {0}
IsFirstFailure t c (answer.No line reason) = FailsFirst t c line reason

-- ---- of a certificate of the program

abbrev pub IsValidTree : Table → Cert → Type 0
IsValidTree t c = IsValid t (vectors_of c.pool.now) (option_copied c.choice) (nothing_fixed t) (tree_of c.root)

abbrev pub tree_walk : Table → Cert → Result ℕ Failure
tree_walk t c = node_walk t c (nothing_fixed t) c.root (root_line (certificate_of c))
