use Rattle.std.proofs.Common.{◌≡◌, ◌+◌, ◌≤◌, drop}
use Rattle.rely_machine.specs.EnergySums.{capped, of_callee, sum_from}
use Rattle.rely_machine.proofs.cost.of_callees.Given as goal

abbrev pub invariant-loop-f : goal.invariant-loop-f
invariant-loop-f l = record {
  fits : l.total ≤ 18446744073709551615;
  rest : capped (l.total + sum_from (of_callee l.h l.run) l.f (drop l.f l.inner)) ≡ capped (sum_from (of_callee l.h l.run) 0 l.inner);
}
