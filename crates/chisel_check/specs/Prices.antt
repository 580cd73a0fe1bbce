-- What the checker keeps of the vectors of a pool.
use Rattle.std.specs.Prelude.{◌≡◌, ℕ, ◌^◌, ◌<◌, ◌≤◌, Bool, true, false, List, length, slice_index, slice_index_or}
use Rattle.chisel_table.specs.declared.lagrangian.TheConstants.{ENERGY_WEIGHT}
use Rattle.chisel_table.specs.declared.table.Table.{Table}
use Rattle.chisel_table.specs.declared.table.TheConstants.{MAX_DECISIONS}
use Rattle.chisel_table.specs.Closings.{vector_at}
use Rattle.chisel_table.specs.Grid.{Holds}
use Rattle.chisel_table.specs.Lagrangian.{IsVector, allowance, penalty, weight}
use Rattle.chisel_table.specs.Sums.{least_to}
use Rattle.chisel_table.specs.Tables.{decision_count, option_count}
use Rattle.chisel_cert.specs.Node.{vectors_of}
use Rattle.chisel_check.specs.declared.prices.Penalties.{Penalties}
use Rattle.chisel_check.specs.declared.prices.Prices.{Prices}
use Rattle.chisel_check.specs.declared.prices.Priced.{Priced}
use Rattle.chisel_check.specs.declared.prices.TheConstants.{MAX_VECTORS}
use Rattle.chisel_check.specs.Walk.{CertFits}

-- prices weigh energies, penalties don't
abbrev pub scale_of : Bool → ℕ
scale_of true = ENERGY_WEIGHT
scale_of false = 0

-- the grid has what each option spends under the vector
pub record ArePenalties (t : Table) (kept : Penalties) : Type 0 where
  pub vector : IsVector t kept.vector.now
  pub grid : Holds t (penalty t kept.vector.now) kept.grid

-- for each decision the least weight of its options
pub record AreLeast (t : Table) (scale : ℕ) (l weights : List ℕ) : Type 0 where
  pub size : length weights ≡ MAX_DECISIONS
  pub least : (d : ℕ) → d < decision_count t → slice_index weights d ≡ least_to (option_count t d) (weight t scale l d)
  pub bound : (d : ℕ) → d < decision_count t → slice_index weights d ≤ 2 ^ 114

-- what is kept of a vector
pub record IsKept (t : Table) (kept : Prices) : Type 0 where
  pub penalties : ArePenalties t kept.penalties
  pub least_prices : AreLeast t ENERGY_WEIGHT kept.penalties.vector.now kept.least_prices
  pub least_penalties : AreLeast t 0 kept.penalties.vector.now kept.least_penalties
  pub allowance : kept.allowance ≡ allowance t kept.penalties.vector.now

-- it is kept of the first n vectors of a pool
pub record AreKept (t : Table) (pool : List (List ℕ)) (n : ℕ) (all : List Prices) : Type 0 where
  pub size : length all ≡ MAX_VECTORS
  pub vector : (j : ℕ) → j < n → (none : Prices) → (slice_index_or all j none).penalties.vector.now ≡ vector_at pool j
  pub kept : (j : ℕ) → j < n → (none : Prices) → IsKept t (slice_index_or all j none)

-- the certificate fits the table, and it is kept of each vector of its pool
pub record IsPriced (t : Table) (c : Priced) : Type 0 where
  pub fits : CertFits t c.cert.now
  pub few : length c.cert.now.pool.now ≤ MAX_VECTORS
  pub kept : AreKept t (vectors_of c.cert.now.pool.now) (length c.cert.now.pool.now) c.prices.now
