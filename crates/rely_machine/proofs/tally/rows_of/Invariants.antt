use Rattle.std.proofs.Common.{◌≡◌, map, replicate, take}
use Rattle.rely_kernel.specs.Labels.{labels_of}
use Rattle.rely_machine.proofs.tally.rows_of.Given as goal

abbrev pub invariant-loop-k : goal.invariant-loop-k
invariant-loop-k l = l.rows.items ≡ map (λ k. replicate (labels_of k) 0) (take l.k-index l.k-items)
