use Rattle.std.proofs.Common.{◌≡◌, false, Err, ◌-◌, Ok, arith, ap, sym, ◌∙◌}
use Rattle.std.proofs.lemmas.Grind.{common_steps}
use Rattle.rely_parser.specs.State.{state_of, is_memory}
use Rattle.rely_parser.specs.Units.{body_at}
use Rattle.rely_parser.proofs.Blocks.{with_stmts, with_stmts-push}
use Rattle.rely_parser.proofs.Each.{stmts_front-last, body_of-end, body_of-bad, body_of-none, body_of-more}
use Rattle.rely_parser.proofs.unit.body.Goals as goal

pub returns-in_err-one-clause-err : goal.returns-in_err-one-clause-err
returns-in_err-one-clause-err c =
    let bad : is_memory c.in_err-one.field-0.0 ≡ false → body_at c.args.text.now (state_of c.args.at) ≡ Err c.in_err-one.field-0.0 =
    λ m. sym c.loop-after.invariant.same
    ∙ ap (with_stmts c.loop-after.all.items)
    (body_of-bad _ _ _ _ _ (omega (arith, c.loop-after.invariant.enough)) c.in-Ok.ensures.ok (c.in_err-one.ensures.err m)) in
    grind (arith, common_steps, bad)

pub returns-in_err-one-2-clause-err : goal.returns-in_err-one-2-clause-err
returns-in_err-one-2-clause-err c =
    let bad : is_memory c.in_err-one-2.field-0.0 ≡ false → body_at c.args.text.now (state_of c.args.at) ≡ Err c.in_err-one-2.field-0.0 =
    λ m. sym c.loop-after.invariant.same
    ∙ ap (with_stmts c.loop-after.all.items)
    (body_of-none _ _ _ _ _ (omega (arith, c.loop-after.invariant.enough)) c.in_default.ensures.err (c.in_err-one-2.ensures.err m)) in
    grind (arith, common_steps, bad)

pub loop-after-preserved : goal.loop-after-preserved
loop-after-preserved c = record {
  shorter = omega (arith, c.in_ok-one-2.ensures.shorter, c.loop-after.invariant.shorter);
  fuel = c.loop-after.invariant.fuel - 1;
  enough = omega (arith, c.in_ok-one-2.ensures.shorter, c.loop-after.invariant.enough);
  same =
      rw c.in-Ok-push-2.ensures.items
      (with_stmts-push c.loop-after.all.items c.in_ok-one-2.one _
      ∙ ap (with_stmts c.loop-after.all.items) (body_of-more _ _ _ _ _ _ c.in_default.ensures.err (omega (arith, c.loop-after.invariant.enough)) c.in_ok-one-2.ensures.ok)
      ∙ c.loop-after.invariant.same);
}

pub returns-in-Ok-clause-ok : goal.returns-in-Ok-clause-ok
returns-in-Ok-clause-ok c =
    rw (c.into_bump_slice.ensures, c.in-Ok-push.ensures.items)
    (sym c.loop-after.invariant.same
    ∙ ap (with_stmts c.loop-after.all.items)
    (body_of-end _ _ _ _ _ _ (omega (arith, c.loop-after.invariant.enough)) c.in-Ok.ensures.ok c.in_ok-one.ensures.ok)
    ∙ ap (λ b. Ok (b, state_of c.in_ok-one.end)) (stmts_front-last c.loop-after.all.items c.in_ok-one.one))
