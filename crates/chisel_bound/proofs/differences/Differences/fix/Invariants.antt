use Rattle.std.proofs.Common.{◌≡◌, ◌++◌, take}
use Rattle.chisel_table.specs.Partials.{with_option}
use Rattle.chisel_bound.specs.Kept.{bounds_of}
use Rattle.chisel_bound.proofs.differences.Differences.fix.Given as goal

abbrev pub invariant-loop-j : goal.invariant-loop-j
invariant-loop-j l = l.bounds.items ≡ l.initial.bounds.items ++ take l.j (bounds_of l.self.table.now l.self.pool.now.vectors (with_option l.taken.partial l.decision l.option))
