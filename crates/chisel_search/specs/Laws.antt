-- What runs of the search machine come to.
use Rattle.std.specs.Prelude.{ℕ, Bool, true, ◌≡◌, ◌<◌, ◌≤◌, List, Option, length}
use Rattle.chisel_table.specs.declared.partial.Partial.{Partial}
use Rattle.chisel_table.specs.declared.table.Table.{Table}
use Rattle.chisel_table.specs.Least.{IsLeast}
use Rattle.chisel_table.specs.Partials.{nothing_fixed}
use Rattle.chisel_table.specs.Valid.{IsTable}
use Rattle.chisel_bound.specs.Pool.{BeginsWithZeros}
use Rattle.chisel_cert.specs.Tree.{Tree, nodes}
use Rattle.chisel_cert.specs.Valid.{IsValidFor}
use Rattle.chisel_search.specs.declared.part.Part.{Part}
use Rattle.chisel_search.specs.Printed.{IsPrinted, certified, certificate}
use Rattle.chisel_search.specs.Search.{Search, start, end, Run, Divides, IsLawful, rule_of, most_steps}

-- a rule that may answer each decision that passes a test, and a pick that may answer each place that passes one
abbrev pub answers_by : (Partial → ℕ → Bool) → Partial → ℕ → Type 0
answers_by answers p d = answers p d ≡ true

abbrev pub picks_by : (List Part → ℕ → Bool) → List Part → ℕ → Type 0
picks_by picks parts k = picks parts k ≡ true

-- every run ends, after at most as many steps as the product of options plus one
abbrev pub RunsEnd : Type 0
RunsEnd =
    (t : Table) (pool : List (List ℕ)) (answers : Partial → ℕ → Bool) (picks : List Part → ℕ → Bool) (n : ℕ) (s : Search)
    → IsTable t → BeginsWithZeros pool → IsLawful t (answers_by answers) → Run t pool (answers_by answers) (picks_by picks) n (start t) s → n ≤ most_steps t

-- whatever the rule and the pick, a run that ends has found the least choice
abbrev pub RunsFindLeast : Type 0
RunsFindLeast =
    (t : Table) (pool : List (List ℕ)) (answers : Partial → ℕ → Bool) (picks : List Part → ℕ → Bool) (n : ℕ) (best : Option (List ℕ))
    → IsTable t → BeginsWithZeros pool → IsLawful t (answers_by answers) → Run t pool (answers_by answers) (picks_by picks) n (start t) (end best) → IsLeast t best

-- a tree that stands on the decisions of the run makes a valid certificate
abbrev pub RunsCertify : Type 0
RunsCertify =
    (t : Table) (pool : List (List ℕ)) (answers : Partial → ℕ → Bool) (picks : List Part → ℕ → Bool) (n : ℕ) (best : Option (List ℕ))
    (run : Run t pool (answers_by answers) (picks_by picks) n (start t) (end best)) (root : Tree) → IsTable t → BeginsWithZeros pool → IsLawful t (answers_by answers)
    → IsPrinted t pool (Divides t pool (answers_by answers) (picks_by picks) n (start t) (end best) run) best (nothing_fixed t) root → IsValidFor t (certified t pool best root)

-- for a rule that is a function of the partial choice, that certificate is the rule's, whatever the pick
abbrev pub OneCertificate : Type 0
OneCertificate =
    (t : Table) (pool : List (List ℕ)) (rule : Partial → ℕ) (picks : List Part → ℕ → Bool) (n : ℕ) (best : Option (List ℕ))
    (run : Run t pool (rule_of rule) (picks_by picks) n (start t) (end best)) (root : Tree) → IsTable t → BeginsWithZeros pool → IsLawful t (rule_of rule)
    → IsPrinted t pool (Divides t pool (rule_of rule) (picks_by picks) n (start t) (end best) run) best (nothing_fixed t) root
    → certified t pool best root ≡ certificate t pool rule best

-- it has at most as many nodes as each run has steps
abbrev pub FewNodes : Type 0
FewNodes =
    (t : Table) (pool : List (List ℕ)) (rule : Partial → ℕ) (picks : List Part → ℕ → Bool) (n : ℕ) (best : Option (List ℕ))
    → IsTable t → BeginsWithZeros pool → IsLawful t (rule_of rule) → Run t pool (rule_of rule) (picks_by picks) n (start t) (end best)
    → nodes (certificate t pool rule best).root ≤ n

-- the pick that is a function of the list
abbrev pub pick_of : (List Part → ℕ) → List Part → ℕ → Type 0
pick_of g parts k = k ≡ g parts

-- for a rule and a pick that are functions there is one run: all runs that end have the same steps and the same end,
-- and none has a part left after as many
abbrev pub OneRun : Type 0
OneRun =
    (t : Table) (pool : List (List ℕ)) (rule : Partial → ℕ) (pick : List Part → ℕ) (m n : ℕ) (best : Option (List ℕ)) (s : Search)
    → Run t pool (rule_of rule) (pick_of pick) m (start t) (end best) → Run t pool (rule_of rule) (pick_of pick) n (start t) s
    → (n ≤ m) × (0 < length s.parts → n < m)
