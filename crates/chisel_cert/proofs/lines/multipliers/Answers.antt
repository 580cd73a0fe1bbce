use Rattle.std.proofs.Common.{◌≡◌, Err, sym, ◌∙◌, arith}
use Rattle.std.proofs.lemmas.Grind.{common_steps}
use Rattle.chisel_cert.specs.declared.limits.TheConstants.{MOST_MULTIPLIER}
use Rattle.chisel_cert.specs.State.{state_of, more_at}
use Rattle.chisel_cert.specs.Lines.{spaced_at}
use Rattle.chisel_cert.proofs.Each.{each_end, each_fails, each_more}
use Rattle.chisel_cert.proofs.lines.multipliers.Goals as goal

pub returns-in_err-one-clause-reads : goal.returns-in_err-one-clause-reads
returns-in_err-one-clause-reads c =
    let bad : more_at c.args.all.items (spaced_at MOST_MULTIPLIER) c.args.count (state_of c.args.at) ≡ Err c.in_err-one.field-0.0 =
    sym c.loop-index.invariant.same ∙ each_fails (spaced_at MOST_MULTIPLIER) _ c.loop-index.all.items (state_of c.loop-index.rest) _ (omega arith) c.in_err-one.ensures.reads in
    grind (arith, common_steps, bad)

pub loop-index-preserved : goal.loop-index-preserved
loop-index-preserved c = record {
  line = (
    c.in_ok-one.ensures.line.0 ∙ c.loop-index.invariant.line.0,
    c.in_ok-one.ensures.line.1 ∙ c.loop-index.invariant.line.1,
    c.in_ok-one.ensures.line.2 ∙ c.loop-index.invariant.line.2,
  );
  same =
      rw c.in_ok-push.ensures.items
      (each_more (spaced_at MOST_MULTIPLIER) _ _ c.loop-index.all.items _ (state_of c.loop-index.rest) (state_of c.in_ok-one.after) (omega arith) c.in_ok-one.ensures.reads
      ∙ c.loop-index.invariant.same);
}

pub returns-clause-reads : goal.returns-clause-reads
returns-clause-reads c =
    rw c.into_bump_slice.ensures
    (sym c.loop-index.invariant.same ∙ each_end (spaced_at MOST_MULTIPLIER) _ c.loop-index.all.items (state_of c.loop-index.rest) (omega arith))
