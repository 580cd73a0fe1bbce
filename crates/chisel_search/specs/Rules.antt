-- What a rule and a pick answer, told by the facts of their closures.
use Rattle.std.specs.Prelude.{ℕ, true, ◌≡◌, ◌<◌, List, length, map, slice_index_or, ℤ, pos, ◌<ℤ◌, ◌≤ℤ◌}
use Rattle.std.specs.Borrow.{Bor}
use Rattle.chisel_table.specs.declared.partial.Partial.{Partial}
use Rattle.chisel_table.specs.declared.table.Table.{Table}
use Rattle.chisel_table.specs.Partials.{is_unfixed, IsPartial}
use Rattle.chisel_table.specs.Tables.{decision_count}
use Rattle.chisel_table.specs.Valid.{IsTable}
use Rattle.chisel_search.specs.declared.part.Part.{Part}
use Rattle.chisel_search.specs.Search.{unfixed}

-- a decision of the table that is unfixed
pub record IsUnfixed (t : Table) (p : Partial) (d : ℕ) : Type 0 where
  pub inside : d < decision_count t
  pub unfixed : is_unfixed p d ≡ true

-- a valid table, and a partial choice of it that has an unfixed decision
pub record CanBranch (t : Table) (p : Partial) : Type 0 where
  pub table : IsTable t
  pub partial : IsPartial t p
  pub some : 0 < unfixed t p

-- on every valid table and partial choice with an unfixed decision the closure may be called, and answers such a decision
pub record IsRule {F : Type 0} (pre : F → Bor Table → Bor Partial → Type 0) (post : F → Bor Table → Bor Partial → ℕ → Type 0) (f : F) : Type 0 where
  pub able : (t : Bor Table) (p : Bor Partial) → CanBranch t.now p.now → pre f t p
  pub answers : (t : Bor Table) (p : Bor Partial) (d : ℕ) → CanBranch t.now p.now → post f t p d → IsUnfixed t.now p.now d

-- on every list that isn't empty the closure may be called, and answers a place of the list
pub record IsPick {G : Type 0} (pre : G → Bor (List Part) → Type 0) (post : G → Bor (List Part) → ℕ → Type 0) (g : G) : Type 0 where
  pub able : (ps : Bor (List Part)) → 0 < length ps.now → pre g ps
  pub answers : (ps : Bor (List Part)) (k : ℕ) → 0 < length ps.now → post g ps k → k < length ps.now

-- what the closure may answer at a partial choice, and at a list of parts
pub record Answered {F : Type 0} (post : F → Bor Table → Bor Partial → ℕ → Type 0) (f : F) (t : Table) (p : Partial) (d : ℕ) : Type 0 where
  pub table : Bor Table
  pub partial : Bor Partial
  pub table_is : table.now ≡ t
  pub partial_is : partial.now ≡ p
  pub post_holds : post f table partial d

pub record Picked {G : Type 0} (post : G → Bor (List Part) → ℕ → Type 0) (g : G) (ps : List Part) (k : ℕ) : Type 0 where
  pub list : Bor (List Part)
  pub list_is : list.now ≡ ps
  pub post_holds : post g list k

-- ---- best first

-- the value of the part at place k
abbrev pub value_at : List Part → ℕ → ℤ
value_at parts k = slice_index_or (map (λ p. p.value) parts) k (pos 0)

-- k is a place of the list, no part has a smaller value, and none before it has the same
pub record IsFirstLeast (parts : List Part) (k : ℕ) : Type 0 where
  pub inside : k < length parts
  pub least : (j : ℕ) → j < length parts → value_at parts k ≤ℤ value_at parts j
  pub first : (j : ℕ) → j < k → value_at parts k <ℤ value_at parts j
