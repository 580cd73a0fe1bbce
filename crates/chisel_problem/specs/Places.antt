-- Places that want a kind or a memory, with a price for each option.
use Rattle.std.specs.Prelude.{ℕ, suc, ◌+◌, List, [], ◌∷◌, filter_map, slice_index, sum_by, Option, Some, None}
use Rattle.rely_kernel.specs.declared.kernel.Slot.{Slot}
use Rattle.rely_kernel.specs.declared.kernel.Slot.TheVariants.{Named, Free}
use Rattle.chisel_problem.specs.declared.places.Place.{Place}

-- f of each item with its number, which is counted from a on
abbrev pub numbered : {X Y : Type 0} → (ℕ → X → Y) → ℕ → List X → List Y
numbered f a [] = []
numbered f a (x ∷ xs) = f a x ∷ numbered f (suc a) xs

-- ---- what is named, and what is open

-- the price of what a place names, and nothing where it is open
abbrev pub price_if_named : Slot → List ℕ → ℕ
price_if_named (Named n) prices = slice_index prices n
price_if_named Free prices = 0

-- what the named places cost together
abbrev pub closed : List Place → ℕ
closed ps = sum_by (λ p. price_if_named p.slot p.prices) ps

abbrev pub prices_if_open : Slot → List ℕ → Option (List ℕ)
prices_if_open (Named n) prices = None
prices_if_open Free prices = Some prices

-- the prices of the open places in order
abbrev pub opened : List Place → List (List ℕ)
opened ps = filter_map (λ p. prices_if_open p.slot p.prices) ps

-- ---- every place

-- what the places cost together, each with the option of its number
abbrev pub under : List Place → List ℕ → ℕ
under [] ns = 0
under (p ∷ ps) [] = 0
under (p ∷ ps) (n ∷ ns) = slice_index p.prices n + under ps ns
