-- By what a branching rule takes one decision of a table to be larger than another, and the decision that it answers.
use Rattle.std.specs.Prelude.{ℕ, zero, suc, Bool, true, false, ◌<◌, ◌≤◌, Option, Some, None, nat_lt, unwrap_or, if◌then◌else◌}
use Rattle.chisel_table.specs.declared.partial.Partial.{Partial}
use Rattle.chisel_table.specs.declared.table.Table.{Table}
use Rattle.chisel_table.specs.Partials.{is_unfixed}
use Rattle.chisel_table.specs.Sums.{sum_to}
use Rattle.chisel_table.specs.Tables.{decision_count, option_count, row_count, energy_at, spent_at}
use Rattle.chisel_bound.specs.Ascent.{spread}
use Rattle.chisel_search.specs.Rules.{IsUnfixed, CanBranch}
use Rattle.chisel_options.specs.declared.strategy.Branch.{Branch}
use Rattle.chisel_options.specs.declared.strategy.Branch.TheVariants.{First, Spread, Heavy}

-- what the options of decision d spend over all rows
abbrev pub heaviness : Table → ℕ → ℕ
heaviness t d = sum_to (row_count t) (λ i. sum_to (option_count t d) (spent_at t i d))

-- the size of decision d
abbrev pub size : Table → Branch → ℕ → ℕ
size t First d = 0
size t Spread d = spread (option_count t d) (energy_at t d)
size t Heavy d = heaviness t d

-- k, or n where it is larger or there is no k
abbrev pub larger : (ℕ → ℕ) → Option ℕ → ℕ → ℕ
larger size None n = n
larger size (Some k) n = if nat_lt (size k) (size n) then n else k

abbrev pub larger_if : Bool → (ℕ → ℕ) → Option ℕ → ℕ → Option ℕ
larger_if true size k n = Some (larger size k n)
larger_if false size k n = k

-- of the numbers below n that are free, the first of those with the largest size
unfoldable pub largest_to : ℕ → (ℕ → Bool) → (ℕ → ℕ) → Option ℕ
largest_to zero free size = None
largest_to (suc n) free size = larger_if (free n) size (largest_to n free size) n

-- of the unfixed decisions, the first of the largest
abbrev pub largest : Table → (ℕ → ℕ) → Partial → ℕ
largest t size p = unwrap_or (largest_to (decision_count t) (is_unfixed p) size) 0

-- the decision on which a branching rule divides a partial choice
abbrev pub decision : Table → Branch → Partial → ℕ
decision t branch p = largest t (size t branch) p

-- d is unfixed, none of the unfixed ones is larger, and none before it is as large
pub record IsLargest (t : Table) (size : ℕ → ℕ) (p : Partial) (d : ℕ) : Type 0 where
  pub unfixed : IsUnfixed t p d
  pub largest : (k : ℕ) → IsUnfixed t p k → size k ≤ size d
  pub first : (k : ℕ) → IsUnfixed t p k → k < d → size k < size d

abbrev pub DecisionIsLargest : Type 0
DecisionIsLargest = (t : Table) (branch : Branch) (p : Partial) → CanBranch t p → IsLargest t (size t branch) p (decision t branch p)
