use Rattle.std.proofs.Common.{◌≡◌, Err, ◌∷◌, ◌++◌, ◌+◌, ◌-◌, ℕ, ◌<◌, Ok, arith, ap, sym, ◌∙◌, length}
use Rattle.std.proofs.lemmas.Grind.{common_steps}
use Rattle.rely_tree.specs.Shape.{ident_shape}
use Rattle.rely_parser.specs.State.{state_of}
use Rattle.rely_parser.specs.State.{name_at}
use Rattle.rely_parser.specs.Statements.{list_of}
use Rattle.rely_parser.proofs.Lists.{with_front, with_front-none, with_front-push, front-last, list_of-end, list_of-next, next_of, next_of-none, next_of-end, next_of-bad, next_of-more}
use Rattle.rely_parser.proofs.decl.needs.Goals as goal

pub returns-in-Ok-clause-ok : goal.returns-in-Ok-clause-ok
returns-in-Ok-clause-ok c = list_of-end _ _ _ c.in-Ok.ensures.ok

pub loop-all-init : goal.loop-all-init
loop-all-init c = record {
  within = omega arith;
  fuel = λ n. n + 1;
  enough = λ n h. omega arith;
  same =
      ap (λ xs. with_front ident_shape xs (next_of (name_at c.args.text.now) (λ n. n + 1) (state_of c.args.at))) c.new-all.ensures.items
      ∙ with_front-none ident_shape _
      ∙ list_of-next _ _ _ c.in_default.ensures.err;
}

pub returns-in_err-one-clause-err : goal.returns-in_err-one-clause-err
returns-in_err-one-clause-err c =
    let bad : list_of (name_at c.args.text.now) (state_of c.args.at) ≡ Err c.in_err-one.field-0.0 =
    sym c.loop-all.invariant.same
    ∙ ap (with_front ident_shape c.loop-all.all.items) (next_of-none (name_at c.args.text.now) c.loop-all.invariant.fuel (state_of c.loop-all.rest) _ c.in_err-one.ensures.err) in
    grind (arith, common_steps, bad)

pub returns-in_err-end-clause-err : goal.returns-in_err-end-clause-err
returns-in_err-end-clause-err c =
    let some = c.loop-all.invariant.enough (length c.in_ok-one.after.toks.now) c.in_ok-one.ensures.shorter in
    let bad : list_of (name_at c.args.text.now) (state_of c.args.at) ≡ Err c.in_err-end.field-0.0 =
    sym c.loop-all.invariant.same
    ∙ ap (with_front ident_shape c.loop-all.all.items)
    (next_of-bad (name_at c.args.text.now) c.loop-all.invariant.fuel (state_of c.loop-all.rest) _ (state_of c.in_ok-one.after) _ _ c.in_ok-one.ensures.ok (omega (arith, some)) c.in_default-skip.ensures.err c.in_err-end.ensures.err) in
    grind (arith, common_steps, bad)

pub loop-all-preserved : goal.loop-all-preserved
loop-all-preserved c =
    let read = c.in_ok-one.ensures.shorter in
    let cut = c.in-Ok-skip.ensures.shorter in
    let some = c.loop-all.invariant.enough (length c.in_ok-one.after.toks.now) read in
    record {
      within = omega (arith, cut, read, c.loop-all.invariant.within);
      fuel = λ _. c.loop-all.invariant.fuel (length c.in_ok-one.after.toks.now) - 1;
      enough = λ n h. omega (arith, h, cut, some);
      same =
          rw c.in-Ok-push.ensures.items
          (with_front-push ident_shape c.loop-all.all.items c.in_ok-one.one _
          ∙ ap (with_front ident_shape c.loop-all.all.items) (next_of-more (name_at c.args.text.now) c.loop-all.invariant.fuel (state_of c.loop-all.rest) _ (state_of c.in_ok-one.after) _ c.in_ok-one.ensures.ok (omega (arith, some)) c.in-Ok-skip.ensures.ok)
          ∙ c.loop-all.invariant.same);
    }

pub returns-in_default-skip-clause-ok : goal.returns-in_default-skip-clause-ok
returns-in_default-skip-clause-ok c =
    let some = c.loop-all.invariant.enough (length c.in_ok-one.after.toks.now) c.in_ok-one.ensures.shorter in
    rw (c.into_bump_slice.ensures, c.in-Ok-push.ensures.items)
    (sym c.loop-all.invariant.same
    ∙ ap (with_front ident_shape c.loop-all.all.items)
    (next_of-end (name_at c.args.text.now) c.loop-all.invariant.fuel (state_of c.loop-all.rest) _ (state_of c.in_ok-one.after) _ _ c.in_ok-one.ensures.ok (omega (arith, some)) c.in_default-skip.ensures.err c.in_ok-end.ensures.ok)
    ∙ ap (λ b. Ok (b, state_of c.in_ok-end.end)) (front-last ident_shape c.loop-all.all.items c.in_ok-one.one))
