-- The log of a search: its run, and the numbers of the parts, by which their bounds and the nodes of the certificate are found.
use Rattle.std.specs.Prelude.{ℕ, zero, suc, ◌≡◌, ◌+◌, ◌<◌, List, [], ◌∷◌, length, slice_index, slice_index_or}
use Rattle.chisel_table.specs.declared.partial.Partial.{Partial}
use Rattle.chisel_table.specs.declared.table.Table.{Table}
use Rattle.chisel_table.specs.Partials.{nothing_fixed}
use Rattle.chisel_table.specs.Sums.{list_to}
use Rattle.chisel_table.specs.Tables.{option_count}
use Rattle.chisel_search.specs.declared.part.Part.{Part}
use Rattle.chisel_search.specs.declared.visit.Fate as declared
use Rattle.chisel_search.specs.declared.visit.Fate.TheVariants.{Closed, Complete, Divided}
use Rattle.chisel_search.specs.declared.visit.Visit.{Visit}
use Rattle.chisel_search.specs.Search.{Search, start, Fate, closed, complete, divided, fate, after, children, replaced, parts_of}

-- ---- visits

abbrev pub fate_of : declared.Fate → Fate
fate_of Closed = closed
fate_of Complete = complete
fate_of (Divided d) = divided

-- the decision on which a part was divided
abbrev pub decision_of : declared.Fate → ℕ
decision_of (Divided d) = d
decision_of _ = 0

-- the visit at place i of a log
abbrev pub visit_at : Table → List Visit → ℕ → Visit
visit_at t log i = slice_index_or log i (record { number = 0; partial = nothing_fixed t; first = 0; fate = Closed })

-- what stands in the place of a part that was taken
abbrev pub children_by : Table → Partial → ℕ → Fate → List Partial
children_by t p d closed = []
children_by t p d complete = []
children_by t p d divided = children t p d

-- how many these are
abbrev pub count_by : Table → ℕ → Fate → ℕ
count_by t d closed = 0
count_by t d complete = 0
count_by t d divided = option_count t d

-- so many numbers from one on
abbrev pub numbers_from : ℕ → ℕ → List ℕ
numbers_from first n = list_to n (λ o. first + o)

-- ---- states

-- a state of the machine, the numbers of its open parts, and how many parts there ever were
pub record State : Type 0 where
  pub search : Search
  pub numbers : List ℕ
  pub made : ℕ

abbrev pub first_state : Table → State
first_state t = record { search = start t; numbers = 0 ∷ []; made = 1 }

abbrev pub state_after : Table → State → ℕ → Visit → State
state_after t s k v =
    record {
      search = after t s.search k v.partial (decision_of v.fate) (fate_of v.fate);
      numbers = replaced s.numbers k (numbers_from s.made (count_by t (decision_of v.fate) (fate_of v.fate)));
      made = s.made + count_by t (decision_of v.fate) (fate_of v.fate);
    }

-- a visit leads from one state to the next: the pick answered the place of its part, and the rule its decision
pub record Leads (t : Table) (pool : List (List ℕ)) (Answers : Partial → ℕ → Type 0) (Picks : List Part → ℕ → Type 0) (s : State) (v : Visit) (next : State) : Type 0 where
  pub place : ℕ
  pub in_list : place < length s.search.parts
  pub picked : Picks (parts_of t pool s.search.parts) place
  pub part_is : v.partial ≡ slice_index_or s.search.parts place (nothing_fixed t)
  pub number_is : v.number ≡ slice_index s.numbers place
  pub first_is : v.first ≡ s.made
  pub fate_is : fate_of v.fate ≡ fate t pool s.search.best v.partial
  pub answered : fate_of v.fate ≡ divided → Answers v.partial (decision_of v.fate)
  pub next_is : next ≡ state_after t s place v

-- the first n visits of the log lead from the start to a state
abbrev pub Logged : Table → List (List ℕ) → (Partial → ℕ → Type 0) → (List Part → ℕ → Type 0) → List Visit → ℕ → State → Type 0
Logged t pool Answers Picks log zero s = s ≡ first_state t
Logged t pool Answers Picks log (suc n) s =
    (before : State) × Logged t pool Answers Picks log n before × Leads t pool Answers Picks before (visit_at t log n) s
