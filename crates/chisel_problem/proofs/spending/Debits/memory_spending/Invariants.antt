use Rattle.std.proofs.Common.{◌≡◌, ◌+◌, ◌*◌, ◌++◌, drop, map}
use Rattle.rely_machine.specs.EnergySums.{capped}
use Rattle.chisel_debit.specs.Debits.{debit}
use Rattle.chisel_problem.specs.Spending.{memory_spending}
use Rattle.chisel_problem.proofs.spending.Debits.memory_spending.Given as goal

abbrev pub invariant-loop-i : goal.invariant-loop-i
invariant-loop-i l =
    l.spent.items ++ map (λ m. capped (l.reads * debit l.self.h.now.base m.read + l.writes * debit l.self.h.now.base m.write)) (drop l.i l.self.h.now.memories)
    ≡ map capped (memory_spending l.self.h.now l.reads l.writes)
