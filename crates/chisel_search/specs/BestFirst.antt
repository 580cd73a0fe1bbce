-- A search that takes the first part of the least value.
use Rattle.std.specs.Prelude.{ℕ, ◌≡◌, length}
use Rattle.chisel_table.specs.declared.partial.Partial.{Partial}
use Rattle.chisel_bound.specs.declared.differences.Differences.{Differences}
use Rattle.chisel_search.specs.declared.frontier.Frontier.{Frontier}
use Rattle.chisel_search.specs.declared.machine.Machine.{Machine}
use Rattle.chisel_search.specs.Frontier.{HasOrigins, parts_in}
use Rattle.chisel_search.specs.Machine.{IsSearching, table_of}
use Rattle.chisel_search.specs.Rules.{IsFirstLeast}
use Rattle.chisel_search.specs.Tournament.{IsTournament, numbers_in}

-- the machine and the open parts of the frontier stand where the log leads
pub record IsBestFirst (d : Differences) (Answers : Partial → ℕ → Type 0) (m : Machine) (f : Frontier) : Type 0 where
  pub tournament : IsTournament f.tournament
  pub origins : HasOrigins (table_of d) m.log.items f
  pub searching : IsSearching d Answers IsFirstLeast m (parts_in (table_of d) m.log.items f) (numbers_in f.tournament)
  pub made : m.made ≡ length f.tournament.knots.items
