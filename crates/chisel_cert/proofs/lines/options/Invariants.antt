use Rattle.std.proofs.Common.{◌≡◌, ◌-◌}
use Rattle.chisel_cert.specs.declared.limits.TheConstants.{LAST_OPTION}
use Rattle.chisel_cert.specs.State.{state_of, IsInLine, each_at, behind}
use Rattle.chisel_cert.specs.Lines.{spaced_at}
use Rattle.chisel_cert.proofs.lines.options.Given as goal

abbrev pub invariant-loop-index : goal.invariant-loop-index
invariant-loop-index l = record {
  line : IsInLine (state_of l.at) (state_of l.rest);
  same :
      behind l.all.items (each_at (spaced_at LAST_OPTION) (l.count - l.index) (state_of l.rest))
      ≡ each_at (spaced_at LAST_OPTION) l.count (state_of l.at);
}
