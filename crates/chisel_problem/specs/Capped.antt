-- Prices as numbers of 64 bits.
use Rattle.std.specs.Prelude.{◌≡◌, List, ◌++◌, map}
use Rattle.rely_machine.specs.EnergySums.{capped}
use Rattle.chisel_problem.specs.declared.places.Place.{Place}

-- the greatest number of 64 bits where a price is more
abbrev pub capped_place : Place → Place
capped_place p = record { slot = p.slot; prices = map capped p.prices }

abbrev pub capped_places : List Place → List Place
capped_places ps = map capped_place ps

-- ps, with capped prices, stand behind what stood there before
abbrev pub Gains : List Place → List Place → List Place → Type 0
Gains before after ps = after ≡ before ++ capped_places ps
