use Rattle.std.proofs.Common.{◌≤◌, ◌-◌, length, refl, sym, ◌∙◌, arith}
use Rattle.rely_precond.proofs.Bumps.{argument_in_range, argument_passed, argument_over, has_beyond}
use Rattle.rely_precond.proofs.growth.uses_of.Goals.{else-i-lt64-via-then-i-lt64+else-has, else-i-lt64-via-else-i-lt64}
use Rattle.rely_precond.proofs.growth.uses_of.Goals as goal

pub use_of-requires-clause-in_range : goal.use_of-requires-clause-in_range
use_of-requires-clause-in_range c = argument_in_range c.args.k.now c.args.es.now (c.loop-i.i - 1) c.index-es-i.result (omega (arith, c.loop-i-test.true, c.loop-i.invariant.within)) c.index-es-i.is c.requires.in_range

pub returns-in_err-grown-clause-full : goal.returns-in_err-grown-clause-full
returns-in_err-grown-clause-full c =
    λ _. argument_over c.args.k.now c.args.needs.bits c.loop-i.i c.args.es.now c.index-es-i.result c.args.c c.loop-i.grown c.loop-i-test.true c.loop-i.invariant.within c.index-es-i.is
    c.loop-i.invariant.so_far (sym c.has.ensures ∙ c.if-has.true) (c.in_err-grown.ensures.full refl)

pub loop-i-preserved : goal.loop-i-preserved
loop-i-preserved c =
    let within : c.loop-i.i - 1 ≤ length c.args.es.now = omega (arith, c.loop-i.invariant.within) in
    record {
      few = elim c.else-i-lt64.branch [
        | else-i-lt64-via-then-i-lt64+else-has w ↦ c.loop-i.invariant.few
        | else-i-lt64-via-else-i-lt64 w ↦ c.loop-i.invariant.few
      ];
      within = within;
      so_far = argument_passed c.args.k.now c.args.needs.bits c.loop-i.i c.args.es.now c.args.c c.loop-i.grown c.loop-i-test.true c.loop-i.invariant.within (elim c.else-i-lt64.branch [
        | else-i-lt64-via-then-i-lt64+else-has w ↦ sym w.has.ensures ∙ w.if-has.false
        | else-i-lt64-via-else-i-lt64 w ↦ has_beyond c.args.needs.bits (c.loop-i.i - 1) (omega arith) (omega (arith, w.if-i-lt64.false))
      ]) c.loop-i.invariant.so_far;
    }
