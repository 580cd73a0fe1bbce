use Rattle.std.proofs.Common.{◌≡◌, ◌+◌, ◌≤◌, drop}
use Rattle.std.specs.Prelude.{slice_index}
use Rattle.rely_kernel.specs.Rates.{own}
use Rattle.rely_machine.specs.EnergySums.{capped, of_vars, sum_from}
use Rattle.rely_machine.proofs.EnergyOwn.{var_uses}
use Rattle.rely_machine.proofs.cost.of_vars.Given as goal

abbrev pub invariant-loop-v : goal.invariant-loop-v
invariant-loop-v l = record {
  fits : l.total ≤ 18446744073709551615;
  rest : capped (l.total + sum_from (var_uses l.h l.k (slice_index l.uses)) l.v (drop l.v l.vars)) ≡ capped (of_vars l.h l.k (own l.k) (slice_index l.uses));
}
