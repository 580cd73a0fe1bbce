-- What a search by a strategy finds.
use Rattle.std.specs.Prelude.{ℕ, ◌≡◌, ◌≤◌, ◌<◌, List, length}
use Rattle.chisel_table.specs.declared.table.Table.{Table}
use Rattle.chisel_table.specs.Least.{IsLeast}
use Rattle.chisel_cert.specs.Node.{certificate_of}
use Rattle.chisel_cert.specs.Tree.{nodes}
use Rattle.chisel_cert.specs.Valid.{IsValidFor}
use Rattle.chisel_search.specs.declared.found.Found.{Found}
use Rattle.chisel_search.specs.Found.{options_in}
use Rattle.chisel_search.specs.Laws.{pick_of}
use Rattle.chisel_search.specs.Printed.{certificate}
use Rattle.chisel_search.specs.Search.{Search, Run, start, end, rule_of}
use Rattle.chisel_options.specs.declared.strategy.Strategy.{Strategy}
use Rattle.chisel_strategy.specs.Branching.{decision}
use Rattle.chisel_strategy.specs.Picking.{place}

-- so many steps of the search by a strategy lead from nothing fixed to a state
abbrev pub Leads : Table → List (List ℕ) → Strategy → ℕ → Search → Type 0
Leads t pool s n state = Run t pool (rule_of (decision t s.branch)) (pick_of (place s.order)) n (start t) state

-- the run by the strategy ends after so many visits with the least choice, and the certificate is that of the branching rule for it
pub record IsLeastFound (t : Table) (pool : List (List ℕ)) (s : Strategy) (f : Found) : Type 0 where
  pub run : Leads t pool s f.visits (end (options_in f.best))
  pub least : IsLeast t (options_in f.best)
  pub certificate : certificate_of f.cert ≡ certificate t pool (decision t s.branch) (options_in f.best)
  pub valid : IsValidFor t (certificate_of f.cert)
  pub few : nodes (certificate_of f.cert).root ≤ f.visits

-- after as many visits as there may be a part is open
pub record TakesMore (t : Table) (pool : List (List ℕ)) (s : Strategy) : Type 0 where
  pub state : Search
  pub run : Leads t pool s s.nodes state
  pub open_part : 0 < length state.parts
