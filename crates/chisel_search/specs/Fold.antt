-- The tree of a certificate, folded from a log.
use Rattle.std.specs.Prelude.{ℕ, ◌≡◌, ◌≢◌, ◌+◌, ◌<◌, ◌≤◌, ◌^◌, List, [], ◌∷◌, length, slice_index, slice_index_or, slice_range, sum, Option, Some, None}
use Rattle.chisel_table.specs.declared.closing.Close.{Close}
use Rattle.chisel_table.specs.declared.closing.CloseRule.TheVariants.{C}
use Rattle.chisel_table.specs.declared.partial.Partial.{Partial}
use Rattle.chisel_table.specs.declared.table.Table.{Table}
use Rattle.chisel_table.specs.Least.{IsLeast}
use Rattle.chisel_table.specs.Partials.{nothing_fixed}
use Rattle.chisel_table.specs.Soundness.{IsAsGood}
use Rattle.chisel_bound.specs.declared.differences.Differences.{Differences}
use Rattle.chisel_bound.specs.Pool.{BeginsWithZeros}
use Rattle.chisel_cert.specs.declared.cert.Mark.TheVariants.{Pool}
use Rattle.chisel_cert.specs.declared.cert.Node.{Node, Leaf}
use Rattle.chisel_cert.specs.Node.{certificate_of, tree_of, trees_of}
use Rattle.chisel_cert.specs.Tree.{pooled, Tree, leaf, branch, nodes}
use Rattle.chisel_search.specs.declared.found.Found.{Found}
use Rattle.chisel_search.specs.declared.machine.Machine.{Machine}
use Rattle.chisel_search.specs.declared.part.Part.{Part}
use Rattle.chisel_search.specs.declared.visit.Visit.{Visit}
use Rattle.chisel_search.specs.Found.{options_in}
use Rattle.chisel_search.specs.Logs.{State, Logged, visit_at, fate_of, decision_of, count_by}
use Rattle.chisel_search.specs.Machine.{table_of, pool_of, held_options, EachNumbered, IsMachine}
use Rattle.chisel_search.specs.Printed.{IsPrinted, certified}
use Rattle.chisel_search.specs.Search.{divided}

-- ---- the log alone

-- any decision, and any place
abbrev pub AnyDecision : Partial → ℕ → Type 0
AnyDecision p d = Unit {0}

abbrev pub AnyPlace : List Part → ℕ → Type 0
AnyPlace parts k = Unit {0}

-- a visit of the log divided the part p by decision d
pub record InLog (t : Table) (log : List Visit) (p : Partial) (d : ℕ) : Type 0 where
  pub place : ℕ
  pub inside : place < length log
  pub part : (visit_at t log place).partial ≡ p
  pub divides : fate_of (visit_at t log place).fate ≡ divided
  pub decision : decision_of (visit_at t log place).fate ≡ d

-- no part is open, and the best choice is the least
pub record IsOver (d : Differences) (m : Machine) : Type 0 where
  pub machine : IsMachine d m
  pub zeros : BeginsWithZeros (pool_of d)
  pub few : length m.log.items < 2 ^ 32
  pub state : State
  pub logged : Logged (table_of d) (pool_of d) AnyDecision AnyPlace m.log.items (length m.log.items) state
  pub ended : state.search.parts ≡ []
  pub made : m.made ≡ state.made
  pub best : held_options m.best ≡ state.search.best
  pub least : IsLeast (table_of d) (held_options m.best)

-- ---- nodes by numbers

abbrev pub node_at : List Node → ℕ → Node
node_at ns k = slice_index_or ns k (Leaf (Pool (record { rule = C; index = 0 })))

-- the tree of number k
abbrev pub tree_at : List Node → ℕ → Tree
tree_at ns k = tree_of (node_at ns k)

-- how many children a visit made
abbrev pub child_count : Table → Visit → ℕ
child_count t v = count_by t (decision_of v.fate) (fate_of v.fate)

-- what stands at the numbers of the children of a visit
abbrev pub children_in : {A : Type 0} → Table → Visit → List A → List A
children_in t v xs = slice_range xs v.first (v.first + child_count t v)

-- the part of a visit and its children have their places among so many
pub record HasPlaces (t : Table) (v : Visit) (n : ℕ) : Type 0 where
  pub own : v.number < n
  pub children : fate_of v.fate ≡ divided → v.first + child_count t v ≤ n

-- the leaf of a closing rule, and else the branch
abbrev pub closed_or : Option Close → Tree → Tree
closed_or (Some c) tree = leaf (pooled c)
closed_or None tree = tree

abbrev pub size_or : Option Close → ℕ → ℕ
size_or (Some c) size = 1
size_or None size = size

-- the node of a visit is written, and its size; all others stay
pub record IsPut (t : Table) (v : Visit) (close : Option Close) (nodes : List Node) (sizes : List ℕ) (new_nodes : List Node) (new_sizes : List ℕ) : Type 0 where
  pub all_nodes : length new_nodes ≡ length nodes
  pub all_sizes : length new_sizes ≡ length sizes
  pub other_nodes : (k : ℕ) → k ≢ v.number → tree_at new_nodes k ≡ tree_at nodes k
  pub other_sizes : (k : ℕ) → k ≢ v.number → slice_index new_sizes k ≡ slice_index sizes k
  pub tree : tree_at new_nodes v.number ≡ closed_or close (branch (decision_of v.fate) (trees_of (children_in t v nodes)))
  pub size : slice_index new_sizes v.number ≡ size_or close (sum (children_in t v sizes) + 1)

-- the node of number n is printed for the part p, and its size is known
pub record IsBuilt (t : Table) (pool : List (List ℕ)) (log : List Visit) (best : Option (List ℕ)) (ns : List Node) (sizes : List ℕ) (p : Partial) (n : ℕ) : Type 0 where
  pub printed : IsPrinted t pool (InLog t log) best p (tree_at ns n)
  pub size : slice_index sizes n ≡ nodes (tree_at ns n)

-- what f is of each number, in all
abbrev pub all_of : (ℕ → ℕ) → List ℕ → ℕ
all_of f [] = 0
all_of f (n ∷ ns) = f n + all_of f ns

-- the nodes of the parts that were open after the first n visits, with at most one for each later visit
pub record IsFolded (t : Table) (pool : List (List ℕ)) (log : List Visit) (best : Option (List ℕ)) (made n : ℕ) (ns : List Node) (sizes : List ℕ) : Type 0 where
  pub state : State
  pub logged : Logged t pool AnyDecision AnyPlace log n state
  pub room : state.made ≤ made
  pub all_nodes : length ns ≡ made
  pub all_sizes : length sizes ≡ made
  pub good : IsAsGood t best state.search.best
  pub built : EachNumbered (IsBuilt t pool log best ns sizes) state.search.parts state.numbers
  pub few : all_of (slice_index sizes) state.numbers + n ≤ length log

-- the node of the part in which nothing is fixed
pub record IsRoot (d : Differences) (m : Machine) (ns : List Node) (sizes : List ℕ) : Type 0 where
  pub some_nodes : 0 < length ns
  pub some_sizes : 0 < length sizes
  pub built : IsBuilt (table_of d) (pool_of d) m.log.items (held_options m.best) ns sizes (nothing_fixed (table_of d)) 0
  pub few : slice_index sizes 0 ≤ length m.log.items

-- ---- the certificate

pub record IsCertified (d : Differences) (m : Machine) (f : Found) : Type 0 where
  pub visits : f.visits ≡ length m.log.items
  pub best : options_in f.best ≡ held_options m.best
  pub root : Tree
  pub certificate : certificate_of f.cert ≡ certified (table_of d) (pool_of d) (held_options m.best) root
  pub printed : IsPrinted (table_of d) (pool_of d) (InLog (table_of d) m.log.items) (held_options m.best) (nothing_fixed (table_of d)) root
  pub few : nodes root ≤ length m.log.items
