use Rattle.std.proofs.Common.{◌≡◌, ℕ, ◌<◌, false}
use Rattle.chisel_table.specs.Partials.{is_unfixed}
use Rattle.chisel_search.proofs.machine.is_complete.Given as goal

abbrev pub invariant-loop-d : goal.invariant-loop-d
invariant-loop-d l = (k : ℕ) → k < l.d → is_unfixed l.p k ≡ false
