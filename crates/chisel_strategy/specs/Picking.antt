-- The place of the part that an order takes next.
use Rattle.std.specs.Prelude.{ℕ, zero, suc, ◌<◌, ◌-◌, List, length, int_lt, if◌then◌else◌}
use Rattle.chisel_search.specs.declared.part.Part.{Part}
use Rattle.chisel_search.specs.Rules.{IsFirstLeast, value_at}
use Rattle.chisel_options.specs.declared.strategy.Order.{Order}
use Rattle.chisel_options.specs.declared.strategy.Order.TheVariants.{Deep, Best}

-- of the places up to n, the first of those with the least value
unfoldable pub least_to : List Part → ℕ → ℕ
least_to parts zero = 0
least_to parts (suc n) = if int_lt (value_at parts (suc n)) (value_at parts (least_to parts n)) then suc n else least_to parts n

-- the place that an order takes in a list that isn't empty
abbrev pub place : Order → List Part → ℕ
place Deep parts = length parts - 1
place Best parts = least_to parts (length parts - 1)

abbrev pub BestIsFirstLeast : Type 0
BestIsFirstLeast = (parts : List Part) → 0 < length parts → IsFirstLeast parts (place Best parts)
