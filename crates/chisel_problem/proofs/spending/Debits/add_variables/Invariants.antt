use Rattle.std.proofs.Common.{◌≡◌, ◌++◌, drop, map}
use Rattle.chisel_problem.specs.Capped.{capped_place}
use Rattle.chisel_problem.specs.Spending.{variable_spending}
use Rattle.chisel_problem.specs.Places.{numbered}
use Rattle.chisel_problem.proofs.spending.Debits.add_variables.Given as goal

abbrev pub invariant-loop-v : goal.invariant-loop-v
invariant-loop-v l =
    l.places.items ++ map capped_place (numbered (variable_spending l.self.h.now l.self.k.now l.counts) l.v (drop l.v l.self.k.now.vars))
    ≡ l.fn.places.items ++ map capped_place (numbered (variable_spending l.self.h.now l.self.k.now l.counts) 0 l.self.k.now.vars)
