use Rattle.std.proofs.Common.{◌≡◌, ℕ, ◌<◌, ◌-◌}
use Rattle.chisel_debit.specs.Debits.{up}
use Rattle.chisel_debit.specs.declared.reliability.TheConstants.{MAX_DEBIT}
use Rattle.chisel_debit.proofs.reliability.DebitWalkWalk.answer.Given as goal

abbrev pub invariant-loop-next : goal.invariant-loop-next
invariant-loop-next l = record {
  base : l.self.base ≡ l.fn.self.base;
  passed : (k : ℕ) → k < l.self.steps → l.right < up l.fn.self.base k;
}

abbrev pub decreases-loop-next : goal.decreases-loop-next
decreases-loop-next l = MAX_DEBIT - l.self.steps
