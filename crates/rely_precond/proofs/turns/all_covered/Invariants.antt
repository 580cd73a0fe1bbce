use Rattle.std.proofs.Common.{◌≡◌, drop}
use Rattle.rely_precond.specs.Walk.{all_covered}
use Rattle.rely_precond.proofs.turns.all_covered.Given as goal

abbrev pub invariant-loop-c : goal.invariant-loop-c
invariant-loop-c l = all_covered (drop l.c-index l.conjs) l.by ≡ all_covered l.conjs l.by
