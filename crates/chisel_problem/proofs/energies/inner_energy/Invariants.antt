use Rattle.std.proofs.Common.{◌≡◌, ◌+◌, ◌≤◌, drop}
use Rattle.rely_machine.specs.EnergySums.{capped, sum_from}
use Rattle.chisel_problem.specs.Energies.{energies}
use Rattle.chisel_problem.specs.Places.{closed}
use Rattle.chisel_problem.specs.Problem.{inner_energy}
use Rattle.chisel_problem.specs.declared.uses.Whose.TheVariants.{Inner}
use Rattle.chisel_problem.proofs.energies.inner_energy.Given as goal

abbrev pub invariant-loop-f : goal.invariant-loop-f
invariant-loop-f l = record {
  fits : l.total ≤ 18446744073709551615;
  rest : capped (l.total + sum_from (λ f k. closed (energies l.h k l.runs (Inner f))) l.f (drop l.f l.inner)) ≡ capped (inner_energy l.h l.inner l.runs);
}
