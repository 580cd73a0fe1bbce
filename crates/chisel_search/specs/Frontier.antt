-- The open parts of a search, with their partial choices made anew from its log.
use Rattle.std.specs.Prelude.{ℕ, ◌≡◌, ◌+◌, ◌-◌, ◌<◌, ◌≤◌, ◌==◌, List, length, map, slice_index, if◌then◌else◌}
use Rattle.chisel_table.specs.declared.partial.Partial.{Partial}
use Rattle.chisel_table.specs.declared.table.Table.{Table}
use Rattle.chisel_table.specs.Partials.{nothing_fixed, with_option}
use Rattle.chisel_table.specs.Tables.{decision_count, option_count}
use Rattle.chisel_search.specs.declared.frontier.Frontier.{Frontier}
use Rattle.chisel_search.specs.declared.part.Part.{Part}
use Rattle.chisel_search.specs.declared.visit.Visit.{Visit}
use Rattle.chisel_search.specs.Logs.{visit_at, fate_of, decision_of}
use Rattle.chisel_search.specs.Search.{divided}
use Rattle.chisel_search.specs.Tournament.{value_of, numbers_in}

-- the partial choice of the child with number n of a part that was visited
abbrev pub child_of : Visit → ℕ → Partial
child_of v n = with_option v.partial (decision_of v.fate) (n - v.first)

-- the partial choice of part n, whose parent was visited at place i of the log
abbrev pub partial_from : Table → List Visit → ℕ → ℕ → Partial
partial_from t log i n = if n == 0 then nothing_fixed t else child_of (visit_at t log i) n

-- n is the number of a child of the part that was visited
pub record IsChild (t : Table) (v : Visit) (n : ℕ) : Type 0 where
  pub divides : fate_of v.fate ≡ divided
  pub decision : decision_of v.fate < decision_count t
  pub first : v.first ≤ n
  pub last : n < v.first + option_count t (decision_of v.fate)

-- each part but the root is a child of the part that was visited at its origin
pub record HasOrigins (t : Table) (log : List Visit) (f : Frontier) : Type 0 where
  pub size : length f.origins.items ≡ length f.tournament.knots.items
  pub inside : (n : ℕ) → 0 < n → n < length f.origins.items → slice_index f.origins.items n < length log
  pub children : (n : ℕ) → 0 < n → n < length f.origins.items → IsChild t (visit_at t log (slice_index f.origins.items n)) n

abbrev pub part_from : Table → List Visit → Frontier → ℕ → Part
part_from t log f n = record { partial = partial_from t log (slice_index f.origins.items n) n; value = value_of f.tournament.values.items n }

-- the open parts in order
abbrev pub parts_in : Table → List Visit → Frontier → List Part
parts_in t log f = map (part_from t log f) (numbers_in f.tournament)
