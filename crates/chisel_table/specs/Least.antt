-- The least choice: the first, in the order of choices, of those that meet every row.
use Rattle.std.specs.Prelude.{true, false, ◌≡◌, ℕ, List, Option, Some, None}
use Rattle.chisel_table.specs.declared.table.Table.{Table}
use Rattle.chisel_table.specs.Choices.{IsChoice, Meets, before}

-- a choice that meets every row and has no such choice before it, or that none meets every row
abbrev pub IsLeast : Table → Option (List ℕ) → Type 0
IsLeast t (Some b) = IsChoice t b × Meets t b × ((c : List ℕ) → IsChoice t c → Meets t c → before t c b ≡ false)
IsLeast t None = (c : List ℕ) → IsChoice t c → Meets t c → ⊥

-- of two choices exactly one is before the other
pub record IsOrdered (t : Table) : Type 0 where
  pub irreflexive : (a : List ℕ) → before t a a ≡ false
  pub transitive : (a b c : List ℕ) → before t a b ≡ true → before t b c ≡ true → before t a c ≡ true
  pub total : (a b : List ℕ) → IsChoice t a → IsChoice t b → before t a b ≡ false → before t b a ≡ false → a ≡ b

abbrev pub ChoicesAreOrdered : Type 0
ChoicesAreOrdered = (t : Table) → IsOrdered t

-- so the least choice is one
abbrev pub LeastIsUnique : Type 0
LeastIsUnique = (t : Table) (a b : Option (List ℕ)) → IsLeast t a → IsLeast t b → a ≡ b
