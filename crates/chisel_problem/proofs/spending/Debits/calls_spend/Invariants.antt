use Rattle.std.proofs.Common.{◌≡◌, ◌+◌, ◌*◌, ◌^◌, ◌≤◌, drop}
use Rattle.std.specs.Prelude.{slice_index}
use Rattle.rely_kernel.specs.declared.label.Label.TheVariants as label
use Rattle.rely_kernel.specs.Labels.{number}
use Rattle.rely_machine.specs.EnergySums.{sum_from}
use Rattle.chisel_debit.specs.Debits.{debit}
use Rattle.chisel_problem.specs.Spending.{calls_spend}
use Rattle.chisel_problem.proofs.spending.Debits.calls_spend.Given as goal

abbrev pub invariant-loop-place : goal.invariant-loop-place
invariant-loop-place l = record {
  bound : l.total ≤ 2 ^ 96 * l.place;
  rest : l.total + sum_from (λ place site. slice_index l.counts (number l.self.k.now (label.Call place)) * debit l.self.h.now.base site.bound) l.place (drop l.place l.self.k.now.calls)
      ≡ calls_spend l.self.h.now l.self.k.now l.counts;
}
