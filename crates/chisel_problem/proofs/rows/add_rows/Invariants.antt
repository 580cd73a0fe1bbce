use Rattle.std.proofs.Common.{◌≡◌, ◌++◌, drop, map}
use Rattle.chisel_problem.specs.Problem.{row_within}
use Rattle.chisel_problem.proofs.rows.add_rows.Given as goal

abbrev pub invariant-loop-conj : goal.invariant-loop-conj
invariant-loop-conj l =
    l.rows.items ++ map (λ c. row_within l.debits.h.now l.debits.k.now l.budget c.counts) (drop l.conj-index l.conjs)
    ≡ l.fn.rows.items ++ map (λ c. row_within l.debits.h.now l.debits.k.now l.budget c.counts) l.conjs
