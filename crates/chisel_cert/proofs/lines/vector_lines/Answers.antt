use Rattle.std.proofs.Common.{◌≡◌, ◌+◌, ◌-◌, Err, false, ap, sym, ◌∙◌, arith}
use Rattle.std.proofs.lemmas.Grind.{common_steps}
use Rattle.std.proofs.lemmas.List.{map_push}
use Rattle.chisel_cert.specs.Node.{vectors_of}
use Rattle.chisel_cert.specs.State.{state_of, is_memory, ◌>>=◌, each_at, behind}
use Rattle.chisel_cert.specs.Lines.{vector_line_at, vectors_at}
use Rattle.chisel_cert.proofs.Each.{each_end, each_fails, each_more}
use Rattle.chisel_cert.proofs.lines.vector_lines.Goals as goal

pub returns-in_err-count-clause-reads : goal.returns-in_err-count-clause-reads
unfolding vectors_at
returns-in_err-count-clause-reads c = grind (arith, common_steps)

pub returns-in_err-one-clause-reads : goal.returns-in_err-one-clause-reads
unfolding vectors_at
returns-in_err-one-clause-reads c =
    let bad : is_memory c.in_err-one.field-0.0 ≡ false → vectors_at c.args.rows (state_of c.args.at) ≡ Err c.in_err-one.field-0.0 =
    λ m. ap (λ o. o >>= λ n. each_at (vector_line_at c.args.rows) n.0 n.1) c.in_ok-count.ensures.reads
    ∙ sym c.loop-index.invariant.same
    ∙ each_fails (vector_line_at c.args.rows) _ (vectors_of c.loop-index.all.items) (state_of c.loop-index.rest) _ (omega arith) (c.in_err-one.ensures.reads m) in
    grind (arith, common_steps, bad)

pub loop-index-preserved : goal.loop-index-preserved
loop-index-preserved c = record {
  line = omega (arith, c.in_ok-one.ensures.line.0, c.loop-index.invariant.line);
  same =
      ap (λ l. behind l (each_at (vector_line_at c.args.rows) (c.in_ok-count.count - (c.loop-index.index + 1)) (state_of c.in_ok-one.after)))
      (ap vectors_of c.in_ok-push.ensures.items ∙ map_push (λ v. v.now) c.loop-index.all.items c.in_ok-one.one)
      ∙ each_more (vector_line_at c.args.rows) _ _ (vectors_of c.loop-index.all.items) _ (state_of c.loop-index.rest) (state_of c.in_ok-one.after) (omega arith) c.in_ok-one.ensures.reads
      ∙ c.loop-index.invariant.same;
}

pub returns-clause-reads : goal.returns-clause-reads
unfolding vectors_at
returns-clause-reads c =
    rw c.into_bump_slice.ensures
    (ap (λ o. o >>= λ n. each_at (vector_line_at c.args.rows) n.0 n.1) c.in_ok-count.ensures.reads
    ∙ sym c.loop-index.invariant.same ∙ each_end (vector_line_at c.args.rows) _ (vectors_of c.loop-index.all.items) (state_of c.loop-index.rest) (omega arith))
