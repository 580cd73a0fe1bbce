use Rattle.std.proofs.Common.{◌≡◌, ◌++◌, drop, map}
use Rattle.chisel_problem.specs.Capped.{capped_place}
use Rattle.chisel_problem.specs.Energies.{site_energies}
use Rattle.chisel_problem.specs.Places.{numbered}
use Rattle.chisel_problem.proofs.energies.add_sites.Given as goal

abbrev pub invariant-loop-i : goal.invariant-loop-i
invariant-loop-i l =
    l.places.items ++ map capped_place (numbered (site_energies l.h l.k l.runs l.whose) l.i (drop l.i l.k.sites))
    ≡ l.fn.places.items ++ map capped_place (numbered (site_energies l.h l.k l.runs l.whose) 0 l.k.sites)
