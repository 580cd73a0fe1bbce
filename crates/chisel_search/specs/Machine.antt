-- What a search keeps.
use Rattle.std.specs.Prelude.{ℕ, zero, suc, ◌≡◌, ◌+◌, ◌*◌, ◌<◌, List, [], ◌∷◌, ◌++◌, length, Option, Some, None}
use Rattle.chisel_table.specs.declared.partial.Partial.{Partial}
use Rattle.chisel_table.specs.declared.table.Table.{Table}
use Rattle.chisel_table.specs.Partials.{IsPartial, nothing_fixed, with_option}
use Rattle.chisel_table.specs.Tables.{decision_count}
use Rattle.chisel_bound.specs.declared.bounds.Bounds.{Bounds}
use Rattle.chisel_bound.specs.declared.differences.Differences.{Differences}
use Rattle.chisel_bound.specs.declared.keeping.Best.{Best}
use Rattle.chisel_bound.specs.Kept.{AreDifferences, AreRowSums, IsBestKept, IsKept, all_bounds}
use Rattle.chisel_search.specs.declared.machine.Machine.{Machine}
use Rattle.chisel_search.specs.declared.part.Part.{Part}
use Rattle.chisel_search.specs.declared.visit.Fate as declared
use Rattle.chisel_search.specs.declared.visit.Visit.{Visit}
use Rattle.chisel_search.specs.Rules.{IsUnfixed}
use Rattle.chisel_search.specs.Logs.{State, Logged, visit_at, fate_of, decision_of, children_by, count_by, numbers_from}
use Rattle.chisel_search.specs.Search.{Fate, closed, complete, divided, fate, choice_of, parts_of}

-- ---- the table and the pool of the differences

abbrev pub table_of : Differences → Table
table_of d = d.table.now

abbrev pub pool_of : Differences → List (List ℕ)
pool_of d = d.pool.now.vectors

-- ---- the best choice

abbrev pub held_options : Option Best → Option (List ℕ)
held_options (Some b) = Some b.options
held_options None = None

-- a choice of the table with its energy, where there is one
abbrev pub IsHeld : Table → Option Best → Type 0
IsHeld t (Some b) = IsBestKept t b
IsHeld t None = Unit {0}

-- the best choice after a part was taken
abbrev pub best_after : Table → Option (List ℕ) → Partial → Fate → Option (List ℕ)
best_after t best p closed = best
best_after t best p complete = Some (choice_of t p)
best_after t best p divided = best

-- ---- parts and their numbers

-- P holds of each part and the number beside it, and there are as many numbers
abbrev pub EachNumbered : (Partial → ℕ → Type 0) → List Partial → List ℕ → Type 0
EachNumbered P [] [] = Unit {0}
EachNumbered P (p ∷ ps) (n ∷ ns) = P p n × EachNumbered P ps ns
EachNumbered P _ _ = ⊥

-- a partial choice of the table, whose bounds are kept at the place of its number
pub record IsKnown (d : Differences) (bounds : List Bounds) (p : Partial) (n : ℕ) : Type 0 where
  pub partial : IsPartial (table_of d) p
  pub kept : IsKept (table_of d) (pool_of d) bounds (record { partial = p; from = length (pool_of d) * n })

-- the bounds of the first n children by a decision
abbrev pub bounds_to : Differences → Partial → ℕ → ℕ → List Bounds
bounds_to d p decision zero = []
bounds_to d p decision (suc n) = bounds_to d p decision n ++ all_bounds d (with_option p decision n)

-- a visited part is known, and was divided on a decision of the table
pub record IsVisit (d : Differences) (bounds : List Bounds) (v : Visit) : Type 0 where
  pub known : IsKnown d bounds v.partial v.number
  pub decision : fate_of v.fate ≡ divided → decision_of v.fate < decision_count (table_of d)

-- ---- the machine

-- it keeps the bounds of all parts, row sums, and the best choice; each visit is one of a known part
pub record IsMachine (d : Differences) (m : Machine) : Type 0 where
  pub differences : AreDifferences d
  pub some_vectors : 0 < length (pool_of d)
  pub bounds : length m.bounds.items ≡ length (pool_of d) * m.made
  pub rows : AreRowSums (table_of d) m.rows
  pub best : IsHeld (table_of d) m.best
  pub visits : (i : ℕ) → i < length m.log.items → IsVisit d m.bounds.items (visit_at (table_of d) m.log.items i)

-- nothing is visited, and the bounds are those where nothing is fixed
pub record IsBegun (d : Differences) (m : Machine) : Type 0 where
  pub made : m.made ≡ 1
  pub bounds : m.bounds.items ≡ all_bounds d (nothing_fixed (table_of d))
  pub best : m.best ≡ None
  pub log : m.log.items ≡ []

-- all but the row sums stays
pub record KeepsAll (old new : Machine) : Type 0 where
  pub made : new.made ≡ old.made
  pub bounds : new.bounds ≡ old.bounds
  pub best : new.best ≡ old.best
  pub log : new.log ≡ old.log

-- all but the row sums and the best choice stays
pub record KeepsLog (old new : Machine) : Type 0 where
  pub made : new.made ≡ old.made
  pub bounds : new.bounds ≡ old.bounds
  pub log : new.log ≡ old.log

-- where the part is divided, the rule answered its decision
pub record IsAnswered (t : Table) (Answers : Partial → ℕ → Type 0) (p : Partial) (became : declared.Fate) : Type 0 where
  pub answers : fate_of became ≡ divided → Answers p (decision_of became)
  pub unfixed : fate_of became ≡ divided → IsUnfixed t p (decision_of became)

-- what a visit of the part p with number n answers and leaves
pub record IsVisited (d : Differences) (Answers : Partial → ℕ → Type 0) (old : Machine) (p : Partial) (n : ℕ) (new : Machine) (children : List Part) : Type 0 where
  pub became : declared.Fate
  pub fate_is : fate_of became ≡ fate (table_of d) (pool_of d) (held_options old.best) p
  pub answered : fate_of became ≡ divided → Answers p (decision_of became)
  pub logged : new.log.items ≡ old.log.items ++ record { number = n; partial = p; first = old.made; fate = became } ∷ []
  pub best : held_options new.best ≡ best_after (table_of d) (held_options old.best) p (fate_of became)
  pub parts : children ≡ parts_of (table_of d) (pool_of d) (children_by (table_of d) p (decision_of became) (fate_of became))
  pub made : new.made ≡ old.made + count_by (table_of d) (decision_of became) (fate_of became)
  pub count : length children ≡ count_by (table_of d) (decision_of became) (fate_of became)
  pub known : EachNumbered (IsKnown d new.bounds.items) (children_by (table_of d) p (decision_of became) (fate_of became)) (numbers_from old.made (count_by (table_of d) (decision_of became) (fate_of became)))
  pub grown : (q : Partial) (k : ℕ) → IsKnown d old.bounds.items q k → IsKnown d new.bounds.items q k

-- ---- the search

-- the machine and the open parts stand where the log leads
pub record IsSearching (d : Differences) (Answers : Partial → ℕ → Type 0) (Picks : List Part → ℕ → Type 0) (m : Machine) (ps : List Part) (ns : List ℕ) : Type 0 where
  pub machine : IsMachine d m
  pub state : State
  pub logged : Logged (table_of d) (pool_of d) Answers Picks m.log.items (length m.log.items) state
  pub parts : ps ≡ parts_of (table_of d) (pool_of d) state.search.parts
  pub numbers : ns ≡ state.numbers
  pub made : m.made ≡ state.made
  pub best : held_options m.best ≡ state.search.best
  pub known : EachNumbered (IsKnown d m.bounds.items) state.search.parts state.numbers

-- the machine stands where no part is open
pub record IsEnded (d : Differences) (Answers : Partial → ℕ → Type 0) (Picks : List Part → ℕ → Type 0) (m : Machine) : Type 0 where
  pub parts : List Part
  pub numbers : List ℕ
  pub searching : IsSearching d Answers Picks m parts numbers
  pub none : length parts ≡ 0
