-- The search that is asked for, and what it comes to on a table.
use Rattle.std.specs.Prelude.{ℕ, ◌≤◌, List, Option}
use Rattle.chisel_table.specs.declared.table.Table.{Table}
use Rattle.chisel_table.specs.Least.{IsLeast}
use Rattle.chisel_bound.specs.Ascent.{ascended}
use Rattle.chisel_cert.specs.Tree.{Certificate}
use Rattle.chisel_options.specs.declared.strategy.Branch.TheVariants.{First}
use Rattle.chisel_options.specs.declared.strategy.Order.TheVariants.{Deep}
use Rattle.chisel_strategy.specs.Branching.{decision}
use Rattle.chisel_options.specs.declared.strategy.Strategy.{Strategy}
use Rattle.chisel_strategy.specs.Strategy.{Leads, TakesMore}
use Rattle.chisel_search.specs.Printed.{certificate}
use Rattle.chisel_search.specs.Search.{end}

-- ---- how it goes

-- a made problem is measured by a search that takes the first decision of the deepest part
abbrev pub measured : Strategy
measured = record { nodes = 100000; branch = First; order = Deep }

-- ---- what it comes to

-- the certificate that is printed of a best choice; the order in which parts are taken makes none of it
abbrev pub printed : Table → Strategy → Option (List ℕ) → Certificate
printed t s best = certificate t (ascended t) (decision t s.branch) best

-- after so many visits no part is open, the best choice is the least, and its certificate has no more nodes
pub record Finds (t : Table) (s : Strategy) (visits : ℕ) (best : Option (List ℕ)) : Type 0 where
  pub run : Leads t (ascended t) s visits (end best)
  pub least : IsLeast t best
  pub few : visits ≤ s.nodes
  pub nodes : (printed t s best).nodes ≤ visits

-- after as many visits as there may be a part is open
abbrev pub Passes : Table → Strategy → Type 0
Passes t s = TakesMore t (ascended t) s
