use Rattle.std.proofs.Common.{◌≡◌, Err, ◌-◌, Ok, arith, ap, sym, ◌∙◌}
use Rattle.std.proofs.lemmas.Grind.{common_steps}
use Rattle.rely_tree.specs.Shape.{decl_shape}
use Rattle.rely_parser.specs.State.{state_of}
use Rattle.rely_parser.specs.Units.{locals_at}
use Rattle.rely_parser.proofs.Lists.{with_front, with_front-push, front-ended}
use Rattle.rely_parser.proofs.Each.{each-end, each-none, each-more}
use Rattle.rely_parser.proofs.decl.locals.Goals as goal

pub returns-in_err-one-clause-err : goal.returns-in_err-one-clause-err
returns-in_err-one-clause-err c =
    let cut = c.in-Ok.ensures.shorter in
    let bad : locals_at c.args.text.now (state_of c.args.at) ≡ Err c.in_err-one.field-0.0 =
    sym c.loop-after.invariant.same
    ∙ ap (with_front decl_shape c.loop-after.all.items) (each-none _ _ _ _ _ _ (omega (arith, cut, c.loop-after.invariant.enough)) c.in-Ok.ensures.ok c.in_err-one.ensures.err) in
    grind (arith, common_steps, bad)

pub loop-after-preserved : goal.loop-after-preserved
loop-after-preserved c =
    let cut = c.in-Ok.ensures.shorter in
    let read = c.in_ok-one.ensures.shorter in
    record {
      shorter = omega (arith, cut, read, c.loop-after.invariant.shorter);
      fuel = c.loop-after.invariant.fuel - 1;
      enough = omega (arith, cut, read, c.loop-after.invariant.enough);
      same =
          rw c.in_ok-push.ensures.items
          (with_front-push decl_shape c.loop-after.all.items c.in_ok-one.one _
          ∙ ap (with_front decl_shape c.loop-after.all.items) (each-more _ _ _ _ _ _ _ (omega (arith, cut, c.loop-after.invariant.enough)) c.in-Ok.ensures.ok c.in_ok-one.ensures.ok)
          ∙ c.loop-after.invariant.same);
    }

pub returns-clause-ok : goal.returns-clause-ok
returns-clause-ok c =
    rw c.into_bump_slice.ensures
    (sym c.loop-after.invariant.same
    ∙ ap (with_front decl_shape c.loop-after.all.items) (each-end _ _ _ _ _ c.in_default.ensures.err)
    ∙ ap (λ b. Ok (b, state_of c.loop-after.rest)) (front-ended decl_shape c.loop-after.all.items))
