use Rattle.std.proofs.Common.{◌≡◌, ◌-◌, Ok, Err, false, ap, sym, ◌∙◌, arith}
use Rattle.std.proofs.lemmas.Grind.{common_steps}
use Rattle.chisel_cert.specs.Node.{closing_of, trees_of, line_of}
use Rattle.chisel_cert.specs.Tree.{branch}
use Rattle.chisel_cert.specs.State.{state_of, is_memory, ◌>>=◌}
use Rattle.chisel_cert.specs.Reading.{tree_at}
use Rattle.chisel_cert.proofs.Nodes.{tree_of-Branch, tree_of-Leaf}
use Rattle.chisel_cert.proofs.Grown.{trees_end, trees_fail, trees_more, tree-fails, tree-deep, tree-leaf, tree-branch}
use Rattle.chisel_cert.proofs.node.+tree.Goals as goal

pub returns-in_err-line-clause-reads : goal.returns-in_err-line-clause-reads
returns-in_err-line-clause-reads t c =
    let bad : is_memory c.in_err-line.field-0.0 ≡ false → tree_at c.args.format.version c.args.format.rows c.args.depth (state_of c.args.at) ≡ Err c.in_err-line.field-0.0 =
    λ m. tree-fails _ _ _ _ _ (c.in_err-line.ensures.reads m) in
    grind (arith, common_steps, bad)

pub returns-then-depth-eq0-clause-reads : goal.returns-then-depth-eq0-clause-reads
returns-then-depth-eq0-clause-reads t c =
    λ _. tree-deep c.args.format.version c.args.format.rows c.args.depth c.in-Branch.decision c.in-Branch.count _ (state_of c.in_ok-line.start) c.if-depth-eq0.true
    (c.in_ok-line.ensures.reads ∙ ap (λ l. Ok (line_of l, state_of c.in_ok-line.start)) c.in-Branch.is)

pub returns-in_err-child-in-Branch-clause-reads : goal.returns-in_err-child-in-Branch-clause-reads
returns-in_err-child-in-Branch-clause-reads t c =
    let below = tree_at c.args.format.version c.args.format.rows (c.args.depth - 1) in
    let bad : is_memory c.in_err-child-in-Branch.field-0.0 ≡ false → tree_at c.args.format.version c.args.format.rows c.args.depth (state_of c.args.at) ≡ Err c.in_err-child-in-Branch.field-0.0 =
    λ m. tree-branch c.args.format.version c.args.format.rows c.args.depth c.in-Branch.decision c.in-Branch.count _ (state_of c.in_ok-line.start) (omega arith)
    (c.in_ok-line.ensures.reads ∙ ap (λ l. Ok (line_of l, state_of c.in_ok-line.start)) c.in-Branch.is)
    ∙ ap (λ o. o >>= λ y. Ok (branch c.in-Branch.decision y.0, y.1))
    (sym c.loop-index.invariant.same ∙ trees_fail below _ c.loop-index.all.items (state_of c.loop-index.rest) _ (omega arith) (c.in_err-child-in-Branch.ensures.reads m)) in
    grind (arith, common_steps, bad)

pub loop-index-preserved : goal.loop-index-preserved
loop-index-preserved t c = record {
  line = omega (arith, c.in_ok-child-in-Branch.ensures.line, c.loop-index.invariant.line);
  wanted = omega (arith, c.in_ok-child-in-Branch.ensures.wanted, c.loop-index.invariant.wanted);
  fits = c.in_ok-child-in-Branch.ensures.fits;
  same =
      rw c.in_ok-push-in-Branch.ensures.items
      (trees_more (tree_at c.args.format.version c.args.format.rows (c.args.depth - 1)) _ _ c.loop-index.all.items _ (state_of c.loop-index.rest) _ (omega arith) c.in_ok-child-in-Branch.ensures.reads
      ∙ c.loop-index.invariant.same);
}

pub returns-in-Leaf-clause-reads : goal.returns-in-Leaf-clause-reads
returns-in-Leaf-clause-reads t c =
    tree-leaf c.args.format.version c.args.format.rows c.args.depth (closing_of c.in-Leaf.mark) _ (state_of c.in_ok-line.start)
    (c.in_ok-line.ensures.reads ∙ ap (λ l. Ok (line_of l, state_of c.in_ok-line.start)) c.in-Leaf.is)
    ∙ ap (λ l. Ok (l, state_of c.in_ok-line.start)) (sym (tree_of-Leaf c.in-Leaf.mark))

pub returns-after-loop-index-clause-reads : goal.returns-after-loop-index-clause-reads
returns-after-loop-index-clause-reads t c =
    tree-branch c.args.format.version c.args.format.rows c.args.depth c.in-Branch.decision c.in-Branch.count _ (state_of c.in_ok-line.start) (omega arith)
    (c.in_ok-line.ensures.reads ∙ ap (λ l. Ok (line_of l, state_of c.in_ok-line.start)) c.in-Branch.is)
    ∙ ap (λ o. o >>= λ y. Ok (branch c.in-Branch.decision y.0, y.1))
    (sym c.loop-index.invariant.same
    ∙ trees_end (tree_at c.args.format.version c.args.format.rows (c.args.depth - 1)) _ c.loop-index.all.items (state_of c.loop-index.rest) (omega arith)
    ∙ ap (λ l. Ok (trees_of l, state_of c.loop-index.rest)) (sym c.into_bump_slice-children.ensures))
    ∙ ap (λ l. Ok (l, state_of c.loop-index.rest)) (sym (tree_of-Branch c.in-Branch.decision c.into_bump_slice-children.result))
