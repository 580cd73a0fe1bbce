use Rattle.std.proofs.Common.{◌≡◌, List, drop}
use Rattle.std.specs.Prelude.{flat_map}
use Rattle.std.specs.List.{AllByRecursion}
use Rattle.rely_kernel.specs.Setting.{IsClosed, IsOn}
use Rattle.rely_kernel.specs.Valid.{IsValid}
use Rattle.chisel_claims.specs.Verdicts.{JudgedClaim, callees_after, callees_of}
use Rattle.chisel_verify.specs.Lines.{callee_text}
use Rattle.chisel_verify.proofs.callees.callee_lines.Given as goal

abbrev pub invariant-loop-i : goal.invariant-loop-i
invariant-loop-i l = record {
  so_far : List JudgedClaim;
  same : callees_of l.h l.kernels ≡ callees_after l.h l.i so_far (drop l.i l.kernels);
  text : l.text.items ≡ flat_map (callee_text l.source) so_far;
  valid : AllByRecursion IsValid (drop l.i l.kernels);
  on : AllByRecursion (IsOn l.h) (drop l.i l.kernels);
  closed : AllByRecursion IsClosed (drop l.i l.kernels);
}
