use Rattle.std.proofs.Common.{◌≡◌}
use Rattle.chisel_table.specs.Sums.{list_to}
use Rattle.chisel_strategy.specs.Branching.{size}
use Rattle.chisel_strategy.proofs.branching.sizes.Given as goal

abbrev pub invariant-loop-d : goal.invariant-loop-d
invariant-loop-d l = l.sizes.items ≡ list_to l.d (size l.t l.branch)
