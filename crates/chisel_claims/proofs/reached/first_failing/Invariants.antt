use Rattle.std.proofs.Common.{◌≡◌, List, drop}
use Rattle.std.specs.List.{AllByRecursion}
use Rattle.rely_kernel.specs.Setting.{IsClosed, IsOn}
use Rattle.rely_kernel.specs.Valid.{IsValid}
use Rattle.chisel_claims.specs.Verdicts.{JudgedClaim, callees_after, callees_of}
use Rattle.chisel_claims.proofs.reached.first_failing.Given as goal

abbrev pub invariant-loop-i : goal.invariant-loop-i
invariant-loop-i l = record {
  so_far : List JudgedClaim;
  same : callees_of l.h l.kernels ≡ callees_after l.h l.i so_far (drop l.i l.kernels);
  valid : AllByRecursion IsValid (drop l.i l.kernels);
  on : AllByRecursion (IsOn l.h) (drop l.i l.kernels);
  closed : AllByRecursion IsClosed (drop l.i l.kernels);
}
