-- The ascent of multipliers: a subgradient method from the vector of zeros, whose steps shrink with the number of the round.
use Rattle.std.specs.Prelude.{ℕ, zero, suc, ◌≡◌, ◌<◌, ◌≤◌, ◌^◌, ◌+◌, ◌-◌, ◌*◌, ◌/◌, min, max, List, [], ◌∷◌, map, replicate, length, slice_index, int_lt, if◌then◌else◌, ℤ, pos, negsuc, ◌-ℤ◌}
use Rattle.chisel_table.specs.declared.lagrangian.TheConstants.{ENERGY_WEIGHT, MAX_MULTIPLIER}
use Rattle.chisel_table.specs.declared.table.Table.{Table}
use Rattle.chisel_table.specs.declared.table.TheConstants.{MAX_DECISIONS, MAX_OPTIONS}
use Rattle.chisel_table.specs.Choices.{spent}
use Rattle.chisel_table.specs.Lagrangian.{price}
use Rattle.chisel_table.specs.Sums.{sum_to, least_to, list_to}
use Rattle.chisel_table.specs.Tables.{decision_count, option_count, row_count, energy_at, budget_at}
use Rattle.chisel_table.specs.Grid.{place}
use Rattle.chisel_bound.specs.Weights.{least_place, IsLeastPlace}

-- the greatest value of f over the numbers below n, 0 where there is none
unfoldable pub greatest_to : ℕ → (ℕ → ℕ) → ℕ
greatest_to zero f = 0
greatest_to (suc n) f = max (greatest_to n f) (f n)

-- how far n numbers lie apart
abbrev pub spread : ℕ → (ℕ → ℕ) → ℕ
spread n f = greatest_to n f - least_to n f

-- the spreads of the energies of all decisions together
abbrev pub span : Table → ℕ
span t = sum_to (decision_count t) (λ d. spread (option_count t d) (energy_at t d))

-- a budget as a divisor: 1 where it is less
abbrev pub divisor : ℤ → ℕ
divisor (pos n) = max n 1
divisor (negsuc n) = 1

-- the step for a budget in the first round, where energies lie so far apart
abbrev pub step_for : ℕ → ℤ → ℕ
step_for energies budget = min (energies / divisor budget) MAX_MULTIPLIER

-- the step of row i in the first round
abbrev pub first_step : Table → ℕ → ℕ
first_step t i = step_for (ENERGY_WEIGHT * span t) (budget_at t i)

-- its step in round r
abbrev pub step : Table → ℕ → ℕ → ℕ
step t r i = max (first_step t i / r) 1

-- the options with the least prices under the multipliers, the first of equals
unfoldable pub cheapest : Table → List ℕ → List ℕ
cheapest t l = list_to (decision_count t) (λ d. least_place (option_count t d) (price t l d))

-- what these options spend in row i above its budget: the subgradient
abbrev pub gap : Table → List ℕ → ℕ → ℤ
gap t l i = pos (spent t i (cheapest t l)) -ℤ budget_at t i

-- a multiplier moved by a step: up where the gap is positive, down where it is negative
abbrev pub moved : ℕ → ℕ → ℤ → ℕ
moved n by g = if int_lt (pos 0) g then min (n + by) MAX_MULTIPLIER else (if int_lt g (pos 0) then n - by else n)

-- the vector of round r after the vector l
abbrev pub next_vector : Table → ℕ → List ℕ → List ℕ
next_vector t r l = list_to (row_count t) (λ i. moved (slice_index l i) (step t r i) (gap t l i))

-- the vector after r rounds
unfoldable pub vector_after : Table → ℕ → List ℕ
vector_after t zero = replicate (row_count t) 0
vector_after t (suc r) = next_vector t (suc r) (vector_after t r)

-- the rounds whose vectors make the pool
abbrev pub pool_rounds : List ℕ
pool_rounds = 0 ∷ 8 ∷ 16 ∷ 32 ∷ 64 ∷ []

abbrev pub ascended : Table → List (List ℕ)
ascended t = map (vector_after t) pool_rounds

-- these are the steps of the first round
abbrev pub AreFirstSteps : Table → List ℕ → Type 0
AreFirstSteps t steps = steps ≡ list_to (row_count t) (first_step t)

-- an option in range for each decision
pub record AreOptions (t : Table) (options : List ℕ) : Type 0 where
  pub in_range : (d : ℕ) → d < decision_count t → slice_index options d < option_count t d

-- penalties of the options, by decision and option, each in range
pub record IsPenaltyGrid (t : Table) (grid : List ℕ) : Type 0 where
  pub size : MAX_OPTIONS * decision_count t ≤ length grid
  pub below : (d o : ℕ) → d < decision_count t → o < option_count t d → slice_index grid (place d o) ≤ 2 ^ 113

-- of each decision the first option of the least price, with the penalties of a grid
pub record AreCheapest (t : Table) (grid options : List ℕ) : Type 0 where
  pub size : length options ≡ MAX_DECISIONS
  pub each : (d : ℕ) → d < decision_count t → IsLeastPlace (option_count t d) (λ o. ENERGY_WEIGHT * energy_at t d o + slice_index grid (place d o)) (slice_index options d)
