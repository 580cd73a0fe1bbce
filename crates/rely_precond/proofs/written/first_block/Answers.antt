use Rattle.std.proofs.Common.{◌≡◌, inl, inr, sym, ap, ◌∙◌}
use Rattle.rely_kernel.specs.Text.{stmt_of, block_of}
use Rattle.rely_kernel.proofs.TextLemmas.{text-If, text-While, text-Repeat}
use Rattle.rely_precond.specs.Written.{first_block}
use Rattle.rely_precond.proofs.written.first_block.Goals as goal

pub returns-in-If : goal.returns-in-If
returns-in-If c =
    let its : first_block (stmt_of c.args.what.now) ≡ block_of c.in-If.s = elim c.in-If.is [
      | inl (e, t, is) ↦ ap (λ w. first_block (stmt_of w)) is ∙ ap first_block (text-If e c.in-If.s t)
      | inr (inl (e, n, is)) ↦ ap (λ w. first_block (stmt_of w)) is ∙ ap first_block (text-While e n c.in-If.s)
      | inr (inr (n, is)) ↦ ap (λ w. first_block (stmt_of w)) is ∙ ap first_block (text-Repeat n c.in-If.s)
    ] in
    ap block_of c.as_slice.ensures ∙ sym its
