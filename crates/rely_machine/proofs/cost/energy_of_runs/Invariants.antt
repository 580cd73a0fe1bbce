use Rattle.std.proofs.Common.{◌≡◌, ◌+◌, ◌≤◌, drop}
use Rattle.rely_kernel.specs.Rates.{own}
use Rattle.rely_machine.specs.EnergySums.{capped, of_runs}
use Rattle.rely_machine.proofs.cost.energy_of_runs.Given as goal

abbrev pub invariant-loop-run : goal.invariant-loop-run
invariant-loop-run l = record {
  fits : l.total ≤ 18446744073709551615;
  rest : capped (l.total + of_runs l.h l.k (own l.k.kernel) (drop l.run-index l.runs)) ≡ capped (of_runs l.h l.k (own l.k.kernel) l.runs);
}
