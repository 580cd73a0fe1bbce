use Rattle.std.proofs.Common.{◌≡◌, ◌+◌, ◌≤◌, drop}
use Rattle.std.specs.Prelude.{slice_index, sum_by}
use Rattle.rely_machine.specs.EnergySums.{capped}
use Rattle.chisel_problem.specs.Uses.{uses, uses_of}
use Rattle.chisel_problem.proofs.uses.uses.Given as goal

abbrev pub invariant-loop-run : goal.invariant-loop-run
invariant-loop-run l = record {
  fits : l.total ≤ 18446744073709551615;
  rest : capped (l.total + sum_by (λ o. slice_index (uses_of l.whose o) l.label) (drop l.run-index l.runs)) ≡ capped (uses l.runs l.whose l.label);
}
