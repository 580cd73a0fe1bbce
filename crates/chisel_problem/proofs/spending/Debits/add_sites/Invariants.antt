use Rattle.std.proofs.Common.{◌≡◌, ◌++◌, drop, map}
use Rattle.chisel_problem.specs.Capped.{capped_place}
use Rattle.chisel_problem.specs.Spending.{site_spending}
use Rattle.chisel_problem.specs.Places.{numbered}
use Rattle.chisel_problem.proofs.spending.Debits.add_sites.Given as goal

abbrev pub invariant-loop-i : goal.invariant-loop-i
invariant-loop-i l =
    l.places.items ++ map capped_place (numbered (site_spending l.self.h.now l.self.k.now l.counts) l.i (drop l.i l.self.k.now.sites))
    ≡ l.fn.places.items ++ map capped_place (numbered (site_spending l.self.h.now l.self.k.now l.counts) 0 l.self.k.now.sites)
