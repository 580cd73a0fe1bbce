use Rattle.std.proofs.Common.{◌≡◌, ◌<◌, ◌↔◌, drop, length}
use Rattle.std.specs.List.{AllZip}
use Rattle.rely_kernel.proofs.setting.memories_fit.Given as goal

abbrev pub invariant-loop-i : goal.invariant-loop-i
invariant-loop-i l = record {
  as_long : length l.vars ≡ length l.memories;
  rest : AllZip (λ v memory. memory < length l.h.memories) (drop l.i l.vars) (drop l.i l.memories) ↔ AllZip (λ v memory. memory < length l.h.memories) l.vars l.memories;
}
