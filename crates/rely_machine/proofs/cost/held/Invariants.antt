use Rattle.std.proofs.Common.{◌≡◌, ◌+◌, ◌≤◌, drop}
use Rattle.std.specs.Prelude.{sum_by}
use Rattle.rely_kernel.specs.Rates.{own}
use Rattle.rely_machine.specs.Cost.{hold}
use Rattle.rely_machine.specs.EnergySums.{capped}
use Rattle.rely_machine.proofs.EnergyOwn.{held_of}
use Rattle.rely_machine.proofs.cost.held.Given as goal

abbrev pub invariant-loop-var : goal.invariant-loop-var
invariant-loop-var l = record {
  fits : l.total ≤ 18446744073709551615;
  rest : capped (l.total + sum_by (held_of l.h) (drop l.var-index l.vars)) ≡ capped (hold l.h l.k (own l.k));
}
