-- What holds of certificates as they are printed.
use Rattle.std.specs.Prelude.{ℕ, ◌<◌, ◌≤◌, List, length, Option}
use Rattle.chisel_table.specs.declared.partial.Partial.{Partial}
use Rattle.chisel_table.specs.declared.table.Table.{Table}
use Rattle.chisel_table.specs.Least.{IsLeast}
use Rattle.chisel_table.specs.Valid.{IsTable}
use Rattle.chisel_bound.specs.declared.bounds.TheConstants.{MAX_VECTORS}
use Rattle.chisel_bound.specs.Pool.{BeginsWithZeros, IsPool}
use Rattle.chisel_cert.specs.Ranges.{IsWithin}
use Rattle.chisel_cert.specs.Text.{text_of}
use Rattle.chisel_cert.specs.Tree.{Certificate}
use Rattle.chisel_cert.specs.Valid.{IsValidFor}
use Rattle.chisel_search.specs.Printed.{certificate}
use Rattle.chisel_search.specs.Search.{IsLawful, rule_of}
use Rattle.chisel_optimise.specs.Migrated.{migrated}
use Rattle.chisel_optimise.specs.Pooled.{IsPooled}

-- the last length of a certificate's file, in bytes
abbrev pub longest_certificate : ℕ
longest_certificate = 4194304

-- as many nodes as a certificate's tree may have
abbrev pub most_nodes : ℕ
most_nodes = 100000

-- a valid table, a few vectors of it that begin with zeros, and a rule that answers unfixed decisions
pub record IsPrintable (t : Table) (pool : List (List ℕ)) (rule : Partial → ℕ) : Type 0 where
  pub table : IsTable t
  pub in_range : IsPool t pool
  pub zeros : BeginsWithZeros pool
  pub few : length pool ≤ MAX_VECTORS
  pub lawful : IsLawful t (rule_of rule)

-- the certificate of the least choice is within the limits of the text where it has few nodes
abbrev pub PrintedIsWithin : Type 0
PrintedIsWithin =
    (t : Table) (pool : List (List ℕ)) (rule : Partial → ℕ) (best : Option (List ℕ))
    → IsPrintable t pool rule → IsLeast t best → (certificate t pool rule best).nodes ≤ most_nodes → IsWithin (certificate t pool rule best)

-- no leaf of it has a vector of its own
abbrev pub PrintedIsPooled : Type 0
PrintedIsPooled =
    (t : Table) (pool : List (List ℕ)) (rule : Partial → ℕ) (best : Option (List ℕ))
    → IsPrintable t pool rule → IsLeast t best → IsPooled (certificate t pool rule best).root

-- so its text is shorter than a certificate's file may be
abbrev pub PooledIsShort : Type 0
PooledIsShort = (c : Certificate) → IsWithin c → IsPooled c.root → length (text_of c) < longest_certificate

-- what is written again in the version that is printed is valid
abbrev pub MigratedIsValid : Type 0
MigratedIsValid = (t : Table) (c : Certificate) → IsValidFor t c → IsValidFor t (migrated t c)

-- and within the limits
abbrev pub MigratedIsWithin : Type 0
MigratedIsWithin = (t : Table) (c : Certificate) → IsTable t → IsWithin c → IsValidFor t c → IsWithin (migrated t c)
