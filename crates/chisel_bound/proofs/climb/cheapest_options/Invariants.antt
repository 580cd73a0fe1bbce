use Rattle.chisel_bound.proofs.Ascents.{HalfChosen}
use Rattle.chisel_bound.proofs.climb.cheapest_options.Given as goal

abbrev pub invariant-loop-d : goal.invariant-loop-d
invariant-loop-d l = HalfChosen l.t l.grid l.d l.options
