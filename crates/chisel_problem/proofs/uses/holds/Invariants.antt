use Rattle.std.proofs.Common.{◌≡◌, ◌+◌, ◌≤◌, drop}
use Rattle.std.specs.Prelude.{sum_by}
use Rattle.rely_machine.specs.EnergySums.{capped}
use Rattle.chisel_problem.specs.Uses.{holds, holds_of}
use Rattle.chisel_problem.proofs.uses.holds.Given as goal

abbrev pub invariant-loop-run : goal.invariant-loop-run
invariant-loop-run l = record {
  fits : l.total ≤ 18446744073709551615;
  rest : capped (l.total + sum_by (holds_of l.whose) (drop l.run-index l.runs)) ≡ capped (holds l.runs l.whose);
}
