use Rattle.std.proofs.Common.{◌≡◌, ◌++◌, drop, map}
use Rattle.chisel_problem.specs.Capped.{capped_place}
use Rattle.chisel_problem.specs.Energies.{variable_energies}
use Rattle.chisel_problem.specs.Places.{numbered}
use Rattle.chisel_problem.proofs.energies.add_variables.Given as goal

abbrev pub invariant-loop-v : goal.invariant-loop-v
invariant-loop-v l =
    l.places.items ++ map capped_place (numbered (variable_energies l.h l.k l.runs l.whose) l.v (drop l.v l.k.vars))
    ≡ l.fn.places.items ++ map capped_place (numbered (variable_energies l.h l.k l.runs l.whose) 0 l.k.vars)
