use Rattle.std.proofs.Common.{◌≡◌, drop}
use Rattle.std.specs.List.{list_any}
use Rattle.rely_predicate.specs.Top.{covers}
use Rattle.rely_precond.proofs.turns.is_covered.Given as goal

abbrev pub invariant-loop-d : goal.invariant-loop-d
invariant-loop-d l = list_any (λ d. covers d l.c) (drop l.d-index l.by) ≡ list_any (λ d. covers d l.c) l.by
