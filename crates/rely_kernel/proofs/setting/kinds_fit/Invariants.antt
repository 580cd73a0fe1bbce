use Rattle.std.proofs.Common.{◌≡◌, ◌<◌, ◌↔◌, drop, length}
use Rattle.std.specs.List.{AllZip}
use Rattle.rely_kernel.specs.Setting.{kinds_of}
use Rattle.rely_kernel.proofs.setting.kinds_fit.Given as goal

abbrev pub invariant-loop-i : goal.invariant-loop-i
invariant-loop-i l = record {
  as_long : length l.sites ≡ length l.kinds;
  rest : AllZip (λ site kind. kind < length (kinds_of l.h site.op)) (drop l.i l.sites) (drop l.i l.kinds) ↔ AllZip (λ site kind. kind < length (kinds_of l.h site.op)) l.sites l.kinds;
}
