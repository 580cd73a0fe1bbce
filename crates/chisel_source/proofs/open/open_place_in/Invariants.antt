use Rattle.std.proofs.Common.{◌≡◌, drop}
use Rattle.chisel_source.specs.Open.{open_place_in}
use Rattle.chisel_source.proofs.open.open_place_in.Given as goal

abbrev pub invariant-loop-k : goal.invariant-loop-k
invariant-loop-k l = open_place_in l.kernels ≡ open_place_in (drop l.k-index l.kernels)
