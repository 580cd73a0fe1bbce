use Rattle.std.proofs.Common.{◌≡◌, ◌≤◌, drop, length}
use Rattle.rely_kernel.specs.Paths.{uses_of}
use Rattle.rely_kernel.specs.Text.{exprs_of}
use Rattle.rely_precond.specs.Answers.{AreFew}
use Rattle.rely_precond.proofs.growth.uses_of.Given as goal

abbrev pub invariant-loop-i : goal.invariant-loop-i
invariant-loop-i l = record {
  few : AreFew l.grown.counts;
  within : l.i ≤ length l.es;
  so_far : l.grown ≡ uses_of l.k l.needs.bits l.i (exprs_of (drop l.i l.es)) l.fn.c;
}

abbrev pub decreases-loop-i : goal.decreases-loop-i
decreases-loop-i l = l.i
