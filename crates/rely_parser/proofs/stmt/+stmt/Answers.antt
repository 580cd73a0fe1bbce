use Rattle.std.proofs.Common.{◌≡◌, false, Err, length, ◌+◌, ◌-◌, Ok, arith, ap, sym, ◌∙◌}
use Rattle.std.proofs.lemmas.Grind.{common_steps}
use Rattle.rely_parser.specs.State.{state_of, is_memory}
use Rattle.rely_parser.specs.Statements.{items_at, stmt_at}
use Rattle.rely_parser.proofs.Blocks.{with_stmts, with_stmts-push, stmts_front-ended, items_at-end, items_at-none, items_at-more}
use Rattle.rely_parser.proofs.stmt.+stmt.Goals as goal

pub braced-returns-in-Ok-clause-ok : goal.braced-returns-in-Ok-clause-ok
braced-returns-in-Ok-clause-ok t c =
    rw c.into_bump_slice.ensures
    (sym c.loop-after.invariant.same
    ∙ ap (with_stmts c.loop-after.all.items) (items_at-end _ _ _ _ c.in-Ok.ensures.ok (omega (arith, c.loop-after.invariant.enough)))
    ∙ ap (λ b. Ok (b, state_of c.in-Ok.after)) (stmts_front-ended c.loop-after.all.items))

pub braced-returns-in_err-one-clause-err : goal.braced-returns-in_err-one-clause-err
braced-returns-in_err-one-clause-err t c =
    let bad : is_memory c.in_err-one.field-0.0 ≡ false → items_at (stmt_at c.args.text.now c.args.deep) (length c.args.at.toks.now + 1) (state_of c.args.at) ≡ Err c.in_err-one.field-0.0 =
    λ m. sym c.loop-after.invariant.same
    ∙ ap (with_stmts c.loop-after.all.items) (items_at-none _ _ _ _ _ (omega (arith, c.loop-after.invariant.enough)) c.in_default.ensures.err (c.in_err-one.ensures.err m)) in
    grind (arith, common_steps, bad)

pub braced-loop-after-preserved : goal.braced-loop-after-preserved
braced-loop-after-preserved t c = record {
  shorter = omega (arith, c.in_ok-one.ensures.shorter, c.loop-after.invariant.shorter);
  fuel = c.loop-after.invariant.fuel - 1;
  enough = omega (arith, c.in_ok-one.ensures.shorter, c.loop-after.invariant.enough);
  same =
      rw c.in-Ok-push.ensures.items
      (with_stmts-push c.loop-after.all.items c.in_ok-one.one _
      ∙ ap (with_stmts c.loop-after.all.items) (items_at-more _ _ _ _ _ _ c.in_default.ensures.err (omega (arith, c.loop-after.invariant.enough)) c.in_ok-one.ensures.ok)
      ∙ c.loop-after.invariant.same);
}
