use Rattle.std.proofs.Common.{◌≡◌}
use Rattle.std.specs.Prelude.{slice_index}
use Rattle.chisel_table.specs.Partials.{is_unfixed}
use Rattle.chisel_strategy.specs.Branching.{largest_to}
use Rattle.chisel_strategy.proofs.branching.largest.Given as goal

abbrev pub invariant-loop-d : goal.invariant-loop-d
invariant-loop-d l = l.found ≡ largest_to l.d (is_unfixed l.p) (slice_index l.sizes)
