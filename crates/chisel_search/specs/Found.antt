-- What a search finds.
use Rattle.std.specs.Prelude.{ℕ, ◌≡◌, ◌≤◌, ◌<◌, List, Option, Some, None, length}
use Rattle.chisel_table.specs.declared.choice.Choice.{Choice}
use Rattle.chisel_table.specs.declared.partial.Partial.{Partial}
use Rattle.chisel_table.specs.declared.table.Table.{Table}
use Rattle.chisel_table.specs.Least.{IsLeast}
use Rattle.chisel_table.specs.Partials.{nothing_fixed}
use Rattle.chisel_cert.specs.Tree.{Tree, nodes}
use Rattle.chisel_cert.specs.Node.{certificate_of}
use Rattle.chisel_cert.specs.Valid.{IsValidFor}
use Rattle.chisel_search.specs.declared.part.Part.{Part}
use Rattle.chisel_search.specs.declared.found.Found.{Found}
use Rattle.chisel_search.specs.Search.{Search, start, end, Run, Divides, IsLawful, rule_of}
use Rattle.chisel_search.specs.Printed.{IsPrinted, certified, certificate}

-- the options of a choice, where there is one
abbrev pub options_in : Option Choice → Option (List ℕ)
options_in (Some c) = Some c.options
options_in None = None

-- where the rule is a function of the partial choice, the certificate is the one that is printed for it
abbrev pub IsOfRule : Table → List (List ℕ) → (Partial → ℕ → Type 0) → Found → Type 0
IsOfRule t pool Answers f =
    (rule : Partial → ℕ) → IsLawful t (rule_of rule) → ((p : Partial) (d : ℕ) → Answers p d → d ≡ rule p)
    → certificate_of f.cert ≡ certificate t pool rule (options_in f.best)

-- a run with so many steps ends with the best choice, which is the least; the certificate is valid: it has the first closing rules
-- for this choice, and branches on the decisions that the rule answered in the run
pub record IsFound (t : Table) (pool : List (List ℕ)) (Answers : Partial → ℕ → Type 0) (Picks : List Part → ℕ → Type 0) (f : Found) : Type 0 where
  pub run : Run t pool Answers Picks f.visits (start t) (end (options_in f.best))
  pub least : IsLeast t (options_in f.best)
  pub root : Tree
  pub certificate : certificate_of f.cert ≡ certified t pool (options_in f.best) root
  pub printed : IsPrinted t pool (Divides t pool Answers Picks f.visits (start t) (end (options_in f.best)) run) (options_in f.best) (nothing_fixed t) root
  pub few : nodes root ≤ f.visits
  pub valid : IsValidFor t (certificate_of f.cert)
  pub of_rule : IsOfRule t pool Answers f

-- after so many steps a part is still open
pub record GoesOn (t : Table) (pool : List (List ℕ)) (Answers : Partial → ℕ → Type 0) (Picks : List Part → ℕ → Type 0) (n : ℕ) : Type 0 where
  pub state : Search
  pub run : Run t pool Answers Picks n (start t) state
  pub open_part : 0 < length state.parts
