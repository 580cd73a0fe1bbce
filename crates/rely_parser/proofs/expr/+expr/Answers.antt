use Rattle.std.proofs.Common.{◌≡◌, false, Err, ◌-◌, arith, sym, ◌∙◌, length}
use Rattle.std.proofs.lemmas.Grind.{common_steps}
use Rattle.rely_parser.specs.State.{state_of, is_memory}
use Rattle.rely_parser.specs.Grammar.{level_at, bracketed}
use Rattle.rely_parser.proofs.Levels.{level_at-none, level_at-some, more_at-end, more_at-kind, more_at-none, more_at-more}
use Rattle.rely_parser.proofs.expr.+expr.Goals as goal

pub level-returns-in_err-left-clause-err : goal.level-returns-in_err-left-clause-err
level-returns-in_err-left-clause-err t c = grind (arith, common_steps, level_at-none)

pub level-loop-op-init : goal.level-loop-op-init
level-loop-op-init t c = record {
  shorter = c.in_ok-left.ensures.shorter;
  positive = omega arith;
  fuel = length c.in_ok-left.rest.toks.now;
  enough = omega arith;
  same = level_at-some _ _ _ _ _ _ (omega arith) c.in_ok-left.ensures.ok;
}

pub level-returns-in_err-kind-clause-err : goal.level-returns-in_err-kind-clause-err
level-returns-in_err-kind-clause-err t c =
    let cut = c.in-Ok.ensures.shorter in
    let bad : level_at c.args.text.now (bracketed c.args.text.now c.args.deep) c.args.loose (state_of c.args.at) ≡ Err c.in_err-kind.field-0.0 =
    sym c.loop-op.invariant.same ∙ more_at-kind _ _ _ _ _ _ _ _ _ (omega (arith, cut, c.loop-op.invariant.enough)) c.in-Ok.ensures.ok c.in_err-kind.ensures.err in
    grind (arith, common_steps, bad)

pub level-returns-in_err-right-clause-err : goal.level-returns-in_err-right-clause-err
level-returns-in_err-right-clause-err t c =
    let cut = c.in-Ok.ensures.shorter in
    let bad : is_memory c.in_err-right.field-0.0 ≡ false → level_at c.args.text.now (bracketed c.args.text.now c.args.deep) c.args.loose (state_of c.args.at) ≡ Err c.in_err-right.field-0.0 =
    λ m. sym c.loop-op.invariant.same
    ∙ more_at-none _ _ _ _ _ _ _ _ _ _ _ (omega (arith, cut, c.loop-op.invariant.enough)) c.in-Ok.ensures.ok c.in_ok-kind.ensures.ok (c.in_err-right.ensures.err m) in
    grind (arith, common_steps, bad)

pub level-loop-op-preserved : goal.level-loop-op-preserved
level-loop-op-preserved t c =
    let cut = c.in-Ok.ensures.shorter in
    let kept = c.in_ok-kind.ensures.within in
    let read = c.in_ok-right.ensures.shorter in
    record {
      shorter = omega (arith, cut, kept, read, c.loop-op.invariant.shorter);
      positive = c.loop-op.invariant.positive;
      fuel = c.loop-op.invariant.fuel - 1;
      enough = omega (arith, cut, kept, read, c.loop-op.invariant.enough);
      same =
          rw (c.in_ok-try_alloc.ensures, c.in_ok-try_alloc-2.ensures)
          (more_at-more _ _ _ _ _ _ _ _ _ _ _ _ (omega (arith, cut, c.loop-op.invariant.enough)) c.in-Ok.ensures.ok c.in_ok-kind.ensures.ok c.in_ok-right.ensures.ok ∙ c.loop-op.invariant.same);
    }

pub level-returns-clause-ok : goal.level-returns-clause-ok
level-returns-clause-ok t c = sym c.loop-op.invariant.same ∙ more_at-end _ _ _ _ _ _ _ c.in_default.ensures.err
