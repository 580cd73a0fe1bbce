-- The certificates that have a text of their own: those whose numbers, sizes and depth are within the limits.
use Rattle.std.specs.Prelude.{◌≡◌, ℕ, ◌-◌, ◌<◌, ◌≤◌, Bool, true, false, ◌==◌, List, length, Option, Some, None, is_some, IsTrue, if◌then◌else◌, pos, neg_ℤ, ◌≤ℤ◌}
use Rattle.std.specs.List.{AllByRecursion}
use Rattle.chisel_table.specs.declared.closing.CloseRule.{CloseRule}
use Rattle.chisel_table.specs.declared.closing.CloseRule.TheVariants.{C}
use Rattle.chisel_cert.specs.declared.cert.Restated.{Restated}
use Rattle.chisel_cert.specs.declared.limits.TheConstants.{LAST_VERSION, MOST_DECISIONS, MOST_ROWS, LAST_OPTION, MOST_ENERGY, MOST_DEFICIT, MOST_DEBITS, MOST_MULTIPLIER, MOST_VECTORS, MOST_NODES, LAST_DECISION, MOST_CHILDREN, LAST_INDEX, MOST_DEPTH}
use Rattle.chisel_cert.specs.Tree.{Closing, pooled, own, Tree, leaf, branch, Trees, nil, cons, count, nodes, Certificate}

-- ---- which parts a version has

-- all rows are told again in version 2, and none in version 1
abbrev pub restated_count : ℕ → ℕ → ℕ
restated_count version rows = if version == 2 then rows else 0

-- each rule but c may have a vector of its own
abbrev pub has_vector : CloseRule → Bool
has_vector C = false
has_vector rule = true

-- ---- limits

-- the number is from the first to the last
abbrev pub IsBetween : ℕ → ℕ → ℕ → Type 0
IsBetween first last n = (first ≤ n) × (n ≤ last)

-- so many numbers, each at most the last
abbrev pub AreUpTo : ℕ → ℕ → List ℕ → Type 0
AreUpTo last size ns = (length ns ≡ size) × AllByRecursion (λ n. n ≤ last) ns

-- an option for each decision, or no choice
abbrev pub IsChosen : ℕ → Option (List ℕ) → Type 0
IsChosen decisions None = Unit {0}
IsChosen decisions (Some options) = AreUpTo LAST_OPTION decisions options

-- a number up to the last where one is wanted, and else none
abbrev pub IsGiven : ℕ → Bool → Option ℕ → Type 0
IsGiven last true (Some n) = n ≤ last
IsGiven last true None = ⊥
IsGiven last false (Some n) = ⊥
IsGiven last false None = Unit {0}

-- a row's budget, and where there is a choice what it spends of it
pub record IsRestated (chosen : Bool) (row : Restated) : Type 0 where
  pub least : neg_ℤ (pos MOST_DEFICIT) ≤ℤ row.budget
  pub greatest : row.budget ≤ℤ pos MOST_DEBITS
  pub spent : IsGiven MOST_DEBITS chosen row.spent

-- one multiplier for each row
abbrev pub IsMultipliers : ℕ → List ℕ → Type 0
IsMultipliers rows vector = AreUpTo MOST_MULTIPLIER rows vector

-- the number of a row or a vector, or in version 2 a vector of its own
abbrev pub IsClosing : ℕ → ℕ → Closing → Type 0
IsClosing version rows (pooled close) = close.index ≤ LAST_INDEX
IsClosing version rows (own rule vector) = (version ≡ 2) × IsTrue (has_vector rule) × IsMultipliers rows vector

-- at most so many branches stand one under another, each on a decision and with some children
unfoldable mutual
  pub IsNode : ℕ → ℕ → ℕ → Tree → Type 0
  IsNode version rows depth (leaf closing) = IsClosing version rows closing
  IsNode version rows depth (branch decision children) =
      (0 < depth) × (decision ≤ LAST_DECISION) × IsBetween 1 MOST_CHILDREN (count children) × AreNodes version rows (depth - 1) children

  pub AreNodes : ℕ → ℕ → ℕ → Trees → Type 0
  AreNodes version rows depth nil = Unit {0}
  AreNodes version rows depth (cons tree rest) = IsNode version rows depth tree × AreNodes version rows depth rest

-- within the limits
pub record IsWithin (c : Certificate) : Type 0 where
  pub version : IsBetween 1 LAST_VERSION c.version
  pub decisions : IsBetween 1 MOST_DECISIONS c.decisions
  pub rows : IsBetween 1 MOST_ROWS c.rows
  pub choice : IsChosen c.decisions c.choice
  pub energy : IsGiven MOST_ENERGY (is_some c.choice) c.energy
  pub restated_rows : length c.restated ≡ restated_count c.version c.rows
  pub restated : AllByRecursion (IsRestated (is_some c.choice)) c.restated
  pub vectors : IsBetween 1 MOST_VECTORS (length c.pool)
  pub pool : AllByRecursion (IsMultipliers c.rows) c.pool
  pub most_nodes : c.nodes ≤ MOST_NODES
  pub nodes : c.nodes ≡ nodes c.root
  pub root : IsNode c.version c.rows MOST_DEPTH c.root
