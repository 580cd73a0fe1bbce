use Rattle.std.proofs.Common.{ap, inl, inr}
use Rattle.rely_kernel.specs.Paths.{writes}
use Rattle.rely_kernel.specs.Text.{stmt_of}
use Rattle.rely_precond.proofs.Sets.{target_below}
use Rattle.rely_precond.proofs.written.assigned.Goals as goal

pub with-requires-in-Set : goal.with-requires-in-Set
with-requires-in-Set c = elim c.in-Set.is [
  | inl (e, is) ↦ target_below c.args.what.now c.requires c.in-Set.v (ap (λ w. writes (stmt_of w)) is)
  | inr (inl (i, e, is)) ↦ target_below c.args.what.now c.requires c.in-Set.v (ap (λ w. writes (stmt_of w)) is)
  | inr (inr (place, es, is)) ↦ target_below c.args.what.now c.requires c.in-Set.v (ap (λ w. writes (stmt_of w)) is)
]
