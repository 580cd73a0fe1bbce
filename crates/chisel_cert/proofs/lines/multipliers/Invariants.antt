use Rattle.std.proofs.Common.{◌≡◌, ◌-◌}
use Rattle.chisel_cert.specs.declared.limits.TheConstants.{MOST_MULTIPLIER}
use Rattle.chisel_cert.specs.State.{state_of, IsInLine, each_at, behind}
use Rattle.chisel_cert.specs.Lines.{spaced_at}
use Rattle.chisel_cert.proofs.lines.multipliers.Given as goal

abbrev pub invariant-loop-index : goal.invariant-loop-index
invariant-loop-index l = record {
  line : IsInLine (state_of l.at) (state_of l.rest);
  same :
      behind l.all.items (each_at (spaced_at MOST_MULTIPLIER) (l.count - l.index) (state_of l.rest))
      ≡ behind l.fn.all.items (each_at (spaced_at MOST_MULTIPLIER) l.count (state_of l.at));
}
